-- Going down, the size falls.
use Rattle.std.proofs.Common.{◌+◌, ◌*◌, []}
use Rattle.qtl_syntax.specs.Tree.{formula_of}
use Rattle.wellformed.specs.Expansion.{size}
use Rattle.wellformed.proofs.clash.+clash.Given as goal

abbrev pub decreases-any_clashes : goal.decreases-any_clashes
decreases-any_clashes l = 2 * size [] (formula_of l.formula.now)

abbrev pub decreases-either_clashes : goal.decreases-either_clashes
decreases-either_clashes l = 2 * (size [] (formula_of l.f.now) + size [] (formula_of l.g.now)) + 1
