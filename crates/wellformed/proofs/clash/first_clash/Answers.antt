use Rattle.qtl_truth.specs.Items.{before_of}
use Rattle.wellformed.specs.Clash.{IsClash, seen_in}
use Rattle.wellformed.proofs.ClashItems.{item_clashes, item_passes, item_seen}
use Rattle.std.proofs.Common.{◌≡◌, ◌<◌, length, arith, ap, subst, take}
use Rattle.qtl_syntax.specs.Tree.{formula_of, item_of}
use Rattle.wellformed.specs.Faults.{HasFewNodes, body_of, nodes_of}
use Rattle.wellformed.proofs.ItemSteps.{all_at}
use Rattle.wellformed.proofs.clash.first_clash.Goals as goal

pub any_clashes-requires : goal.any_clashes-requires
any_clashes-requires c =
    let few : length (nodes_of (body_of (item_of c.index-items-m.result))) < 4294967296 =
    all_at HasFewNodes c.args.items.now c.loop-m.m c.index-items-m.result c.loop-m-test.true c.index-items-m.is c.requires.few in
    rw c.body_of.ensures (omega arith)

pub returns-then-branch : goal.returns-then-branch
returns-then-branch c =
    let own : nodes_of (formula_of c.body_of.result.now) ≡ nodes_of (body_of (item_of c.index-items-m.result)) = ap nodes_of c.body_of.ensures in
    item_clashes c.args.items.now c.loop-m.m c.index-items-m.result c.loop-m-test.true c.index-items-m.is (seen_in c.loop-m.seen) (seen_in c.any_clashes.new.seen)
    c.loop-m.invariant.seen c.any_clashes.new.node (nodes_of (formula_of c.body_of.result.now)) own _ c.loop-m.invariant.all
    (subst (IsClash (before_of (take c.loop-m.m c.args.items.now)) (seen_in c.loop-m.seen) 0 (nodes_of (formula_of c.body_of.result.now)) c.any_clashes.new.node (seen_in c.any_clashes.new.seen)) c.if-branch.true c.in_ok-any_clashes.ensures)

pub loop-m-preserved : goal.loop-m-preserved
loop-m-preserved c =
    let own : nodes_of (formula_of c.body_of.result.now) ≡ nodes_of (body_of (item_of c.index-items-m.result)) = ap nodes_of c.body_of.ensures in
    let h = subst (IsClash (before_of (take c.loop-m.m c.args.items.now)) (seen_in c.loop-m.seen) 0 (nodes_of (formula_of c.body_of.result.now)) c.any_clashes.new.node (seen_in c.any_clashes.new.seen)) c.if-branch.false c.in_ok-any_clashes.ensures in
    record {
      all = item_passes c.args.items.now c.loop-m.m c.index-items-m.result c.loop-m-test.true c.index-items-m.is (seen_in c.loop-m.seen) (seen_in c.any_clashes.new.seen)
          c.loop-m.invariant.seen c.any_clashes.new.node (nodes_of (formula_of c.body_of.result.now)) own _ c.loop-m.invariant.all h;
      seen = item_seen c.args.items.now c.loop-m.m c.index-items-m.result c.loop-m-test.true c.index-items-m.is (seen_in c.loop-m.seen) (seen_in c.any_clashes.new.seen)
          c.loop-m.invariant.seen c.any_clashes.new.node (nodes_of (formula_of c.body_of.result.now)) own _ c.loop-m.invariant.all h;
    }
