use Rattle.std.proofs.Common.{subst}
use Rattle.qtl_syntax.specs.Tree.{formula_of}
use Rattle.wellformed.specs.Faults.{nodes_in}
use Rattle.wellformed.specs.Walk.{names_in_scope, is_bad_at, IsFirst}
use Rattle.wellformed.proofs.FirstFaults.{is_first_left, is_first_right}
use Rattle.wellformed.proofs.walk.+walk.Goals as goal

pub either_fails-returns-then-any_fails : goal.either_fails-returns-then-any_fails
either_fails-returns-then-any_fails t c =
    let xs = nodes_in (names_in_scope c.args.scope.now) (formula_of c.args.f.now) in
    let h = subst (IsFirst (is_bad_at c.args.test c.args.items.now c.args.m) c.args.node.now xs c.any_fails.new.node) c.if-any_fails.true c.any_fails.ensures in
    is_first_left (is_bad_at c.args.test c.args.items.now c.args.m) c.args.node.now xs (nodes_in (names_in_scope c.args.scope.now) (formula_of c.args.g.now)) c.any_fails.new.node h

pub either_fails-returns : goal.either_fails-returns
either_fails-returns t c =
    let xs = nodes_in (names_in_scope c.args.scope.now) (formula_of c.args.f.now) in
    let h = subst (IsFirst (is_bad_at c.args.test c.args.items.now c.args.m) c.args.node.now xs c.any_fails.new.node) c.if-any_fails.false c.any_fails.ensures in
    is_first_right (is_bad_at c.args.test c.args.items.now c.args.m) c.args.node.now xs (nodes_in (names_in_scope c.args.scope.now) (formula_of c.args.g.now)) c.any_fails.new.node
    c.any_fails-2.new.node c.any_fails-2.result h c.any_fails-2.ensures
