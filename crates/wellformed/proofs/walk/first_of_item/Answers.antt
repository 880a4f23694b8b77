use Rattle.std.proofs.Common.{◌<◌, [], length, arith, subst}
use Rattle.qtl_syntax.specs.Tree.{item_of, formula_of}
use Rattle.qtl_syntax.specs.declared.formula.Item as rust_item
use Rattle.wellformed.specs.Faults.{HasFewNodes, nodes_of}
use Rattle.wellformed.proofs.Nodes.{same_length}
use Rattle.wellformed.proofs.ItemSteps.{all_at}
use Rattle.wellformed.proofs.walk.first_of_item.Goals as goal

pub any_fails-found-requires-clause-few : goal.any_fails-found-requires-clause-few
any_fails-found-requires-clause-few c =
    let few = all_at HasFewNodes c.args.items.now c.args.m c.index-items-m.result c.requires.within c.index-items-m.is c.requires.few in
    let nodes : length (nodes_of (formula_of c.in-Pred.body)) < 4294967296 = subst (λ (i : rust_item.Item). HasFewNodes (item_of i)) c.in-Pred.is few in
    let same = same_length (formula_of c.in-Pred.body) c.in-Pred.params in
    rw c.as_slice.ensures (omega arith)

pub any_fails-found-requires-in-Prop-clause-few : goal.any_fails-found-requires-in-Prop-clause-few
any_fails-found-requires-in-Prop-clause-few c =
    let few = all_at HasFewNodes c.args.items.now c.args.m c.index-items-m.result c.requires.within c.index-items-m.is c.requires.few in
    let nodes : length (nodes_of (formula_of c.in-Prop.body)) < 4294967296 = subst (λ (i : rust_item.Item). HasFewNodes (item_of i)) c.in-Prop.is few in
    let same = same_length (formula_of c.in-Prop.body) [] in
    omega arith
