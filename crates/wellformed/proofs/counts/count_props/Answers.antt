use Rattle.std.proofs.Common.{◌∙◌, [], ◌∷◌, arith, take, length-append}
use Rattle.qtl_syntax.specs.Tree.{item_of}
use Rattle.qtl_truth.specs.Items.{before_of}
use Rattle.wellformed.specs.Counts.{IsCountOf}
use Rattle.wellformed.specs.Faults.{body_of}
use Rattle.wellformed.proofs.Counting.{next_counts, all_counted, most_of}
use Rattle.wellformed.proofs.counts.count_props.Goals as goal

pub loop-m-preserved : goal.loop-m-preserved
loop-m-preserved c =
    let inv = c.loop-m.invariant in
    let own : IsCountOf c.count_of-own.result (before_of (take c.loop-m.m c.args.items.now)) (body_of (item_of c.index-items-m.result)) =
    rw c.body_of.ensures at c.count_of-own.ensures in
    let next = next_counts c.args.items.now c.loop-m.m c.loop-m.counts.items c.index-items-m.result c.loop-m.total c.count_of-own.result c.with_item-total.result c.loop-m-test.true c.index-items-m.is
    inv.known own c.with_item-total.ensures in
    record {
      most = most_of (item_of c.index-items-m.result) c.loop-m.total c.count_of-own.result c.with_item-total.result c.with_item-total.ensures inv.most.0 inv.most.1;
      each = rw c.in_ok-push.ensures.items (let e = inv.each in omega (arith, length-append c.loop-m.counts.items (c.count_of-own.result ∷ [])));
      known = rw c.in_ok-push.ensures.items next.known;
      size = next.size ∙ inv.size;
      quantifiers = next.quantifiers ∙ inv.quantifiers;
    }

pub returns : goal.returns
returns c =
    let inv = c.loop-m.invariant in
    all_counted c.args.items.now c.loop-m.m c.loop-m.total c.loop-m-test.false inv.most.0 inv.most.1 inv.size inv.quantifiers
