-- Going down, the size falls.
use Rattle.std.proofs.Common.{◌+◌, ◌*◌, []}
use Rattle.qtl_syntax.specs.Tree.{formula_of}
use Rattle.wellformed.specs.Expansion.{size}
use Rattle.wellformed.proofs.walk.+walk.Given as goal

abbrev pub decreases-any_fails : goal.decreases-any_fails
decreases-any_fails l = 2 * size [] (formula_of l.formula.now)

abbrev pub decreases-either_fails : goal.decreases-either_fails
decreases-either_fails l = 2 * (size [] (formula_of l.f.now) + size [] (formula_of l.g.now)) + 1
