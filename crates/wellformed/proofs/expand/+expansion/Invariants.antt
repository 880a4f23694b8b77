-- Going down, through calls too, the expanded size falls.
use Rattle.std.proofs.Common.{◌+◌, ◌*◌}
use Rattle.qtl_syntax.specs.Tree.{formula_of}
use Rattle.wellformed.specs.Expansion.{size, call_size}
use Rattle.qtl_truth.specs.Items.{before_of}
use Rattle.wellformed.proofs.expand.+expansion.Given as goal

abbrev pub decreases-call : goal.decreases-call
decreases-call l = 3 * call_size (before_of l.items.now) l.name.now + 1

abbrev pub decreases-expand : goal.decreases-expand
decreases-expand l = 3 * size (before_of l.items.now) (formula_of l.formula.now)

abbrev pub decreases-one : goal.decreases-one
decreases-one l = 3 * size (before_of l.items.now) (formula_of l.formula.now) + 1

abbrev pub decreases-two : goal.decreases-two
decreases-two l = 3 * (size (before_of l.items.now) (formula_of l.f.now) + size (before_of l.items.now) (formula_of l.g.now)) + 2

abbrev pub decreases-under : goal.decreases-under
decreases-under l = 3 * size (before_of l.items.now) (formula_of l.formula.now) + 2
