use Rattle.node_tree.specs.Tree.{depth}
use Rattle.node_table.specs.Table.{tree_of}
use Rattle.code_reclaim.proofs.search.+strike_below.Given as goal

abbrev pub decreases-strike_below : goal.decreases-strike_below
decreases-strike_below g l = depth (tree_of l.table.now l.h)
