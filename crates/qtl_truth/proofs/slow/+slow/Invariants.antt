use Rattle.std.proofs.Common.{◌+◌, ◌*◌}
use Rattle.qtl_syntax.specs.Tree.{formula_of}
use Rattle.qtl_truth.specs.Items.{before_of}
use Rattle.qtl_truth.specs.Scope.{assignment_of}
use Rattle.qtl_truth.specs.Support.{Supports}
use Rattle.qtl_truth.specs.Truth.{Holds, IsWithin, EachTime, After, NeverFrom}
use Rattle.qtl_truth.proofs.Sizes.{call_size, size}
use Rattle.qtl_truth.proofs.slow.+slow.Given as goal

abbrev pub decreases-is_support : goal.decreases-is_support
decreases-is_support l = 4 * size (before_of l.before.now) (formula_of l.formula.now)

abbrev pub decreases-has_support : goal.decreases-has_support
decreases-has_support l = 4 * size (before_of l.before.now) (formula_of l.formula.now) + 1

abbrev pub decreases-holds : goal.decreases-holds
decreases-holds l = 4 * size (before_of l.before.now) (formula_of l.formula.now) + 2

abbrev pub decreases-holds_after : goal.decreases-holds_after
decreases-holds_after l = 4 * size (before_of l.before.now) (formula_of l.formula.now) + 3

abbrev pub decreases-never_from : goal.decreases-never_from
decreases-never_from l = 4 * size (before_of l.before.now) (formula_of l.formula.now) + 3

abbrev pub decreases-holds_within : goal.decreases-holds_within
decreases-holds_within l = 4 * size (before_of l.before.now) (formula_of l.formula.now) + 3

abbrev pub decreases-says : goal.decreases-says
decreases-says l = 4 * call_size (before_of l.before.now) l.name.now + 3

abbrev pub invariant-has_support-loop-j : goal.invariant-has_support-loop-j
invariant-has_support-loop-j l =
    EachTime (λ j. ¬ Supports (before_of l.before) l.log (assignment_of l.scope) (formula_of l.formula) l.i j) l.j

abbrev pub invariant-holds_after-loop-k : goal.invariant-holds_after-loop-k
invariant-holds_after-loop-k l =
    After l.j (λ k. Holds (before_of l.before) l.log k (assignment_of l.scope) (formula_of l.formula)) l.k

abbrev pub invariant-holds_within-loop-j : goal.invariant-holds_within-loop-j
invariant-holds_within-loop-j l =
    EachTime (λ j. IsWithin l.bound l.log l.i j → Holds (before_of l.before) l.log j (assignment_of l.scope) (formula_of l.formula)) l.j

abbrev pub invariant-never_from-loop-k : goal.invariant-never_from-loop-k
invariant-never_from-loop-k l =
    NeverFrom l.j (λ k. Holds (before_of l.before) l.log k (assignment_of l.scope) (formula_of l.formula)) l.k
