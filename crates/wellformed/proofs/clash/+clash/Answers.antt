use Rattle.std.proofs.Common.{subst}
use Rattle.qtl_syntax.specs.Tree.{formula_of}
use Rattle.qtl_truth.specs.Items.{before_of}
use Rattle.wellformed.specs.Clash.{IsClash, seen_in}
use Rattle.wellformed.specs.Faults.{nodes_of}
use Rattle.wellformed.proofs.Clashes.{clash_left, clash_right_ok}
use Rattle.wellformed.proofs.clash.+clash.Goals as goal

pub either_clashes-returns-then-branch : goal.either_clashes-returns-then-branch
either_clashes-returns-then-branch t c =
    let h = subst (IsClash (before_of c.args.before.now) (seen_in c.args.seen.now) c.args.node.now (nodes_of (formula_of c.args.f.now)) c.any_clashes.new.node (seen_in c.any_clashes.new.seen)) c.if-branch.true c.in_ok-any_clashes.ensures in
    clash_left (before_of c.args.before.now) (seen_in c.args.seen.now) (seen_in c.any_clashes.new.seen) c.args.node.now (nodes_of (formula_of c.args.f.now)) (nodes_of (formula_of c.args.g.now)) c.any_clashes.new.node h

pub either_clashes-returns : goal.either_clashes-returns
either_clashes-returns t c =
    let h = subst (IsClash (before_of c.args.before.now) (seen_in c.args.seen.now) c.args.node.now (nodes_of (formula_of c.args.f.now)) c.any_clashes.new.node (seen_in c.any_clashes.new.seen)) c.if-branch.false c.in_ok-any_clashes.ensures in
    clash_right_ok (before_of c.args.before.now) (seen_in c.args.seen.now) (seen_in c.any_clashes.new.seen) (seen_in c.any_clashes-2.new.seen) c.args.node.now (nodes_of (formula_of c.args.f.now)) (nodes_of (formula_of c.args.g.now))
    c.any_clashes.new.node c.any_clashes-2.new.node c.any_clashes-2.result h c.any_clashes-2.ensures
