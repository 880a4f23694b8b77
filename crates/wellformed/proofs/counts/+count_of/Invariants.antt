use Rattle.std.proofs.Common.{[]}
use Rattle.qtl_syntax.specs.Tree.{formula_of}
use Rattle.wellformed.specs.Expansion.{size}
use Rattle.wellformed.proofs.counts.+count_of.Given as goal

abbrev pub decreases-count_of : goal.decreases-count_of
decreases-count_of l = size [] (formula_of l.formula.now)
