use Rattle.std.proofs.Common.{◌∙◌, sym}
use Rattle.bdd_ops.specs.Numbers.{truth_of}
use Rattle.bdd_ops.proofs.AtOnce.{left_leaf, right_leaf, both_one}
use Rattle.bdd_ops.proofs.once.at_once.Goals as goal

pub returns-in-Some : goal.returns-in-Some
returns-in-Some c =
    left_leaf (truth_of c.args.op) c.args.table.now c.args.u c.args.v c.live-held.ensures.shared c.requires.left c.requires.right c.in-Some.a c.truth.result c.truth-in-Some.result
    c.chosen.result c.in-Some.ensures c.truth.ensures c.truth-in-Some.ensures c.chosen.ensures

pub returns-in-Some-leaf_truth : goal.returns-in-Some-leaf_truth
returns-in-Some-leaf_truth c =
    right_leaf (truth_of c.args.op) c.args.table.now c.args.u c.args.v c.live-held.ensures.shared c.requires.left c.requires.right c.in-Some-leaf_truth.b c.truth-in-Some-leaf_truth.result
    c.truth-in-Some-leaf_truth-2.result c.chosen-in-Some-leaf_truth.result c.in-Some-leaf_truth.ensures c.truth-in-Some-leaf_truth.ensures c.truth-in-Some-leaf_truth-2.ensures
    c.chosen-in-Some-leaf_truth.ensures

pub returns-then-number : goal.returns-then-number
returns-then-number c =
    both_one (truth_of c.args.op) c.args.table.now c.args.u c.args.v c.live-held.ensures.shared c.requires.left c.requires.right c.truth-then-number.result c.truth-then-number-2.result
    c.chosen-then-number.result (sym c.number.ensures ∙ c.if-number.true ∙ c.number-2.ensures) c.truth-then-number.ensures c.truth-then-number-2.ensures c.chosen-then-number.ensures
