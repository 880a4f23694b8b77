use Rattle.node_tree.specs.Tree.{depth}
use Rattle.node_table.specs.Table.{tree_of}
use Rattle.timed_bits.proofs.walk.+change_parts.Given as goal

abbrev pub decreases-change_parts : goal.decreases-change_parts
decreases-change_parts g l = depth (tree_of l.store.now.table l.h)
