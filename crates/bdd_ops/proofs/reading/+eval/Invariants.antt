use Rattle.node_tree.specs.Tree.{depth}
use Rattle.node_table.specs.Table.{tree_of}
use Rattle.bdd_ops.proofs.reading.+eval.Given as goal

abbrev pub decreases-eval : goal.decreases-eval
decreases-eval g l = depth (tree_of l.table.now l.h)
