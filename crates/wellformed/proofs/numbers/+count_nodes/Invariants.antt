use Rattle.std.proofs.Common.{[]}
use Rattle.qtl_syntax.specs.Tree.{formula_of}
use Rattle.wellformed.specs.Expansion.{size}
use Rattle.wellformed.proofs.numbers.+count_nodes.Given as goal

abbrev pub decreases-count_nodes : goal.decreases-count_nodes
decreases-count_nodes l = size [] (formula_of l.formula.now)
