use Rattle.node_tree.specs.Tree.{depth}
use Rattle.node_table.specs.Table.{tree_of}
use Rattle.quantify.proofs.deepest.+look_before.Given as goal

abbrev pub decreases-look_before : goal.decreases-look_before
decreases-look_before g l = depth (tree_of l.store.now.table l.h)
