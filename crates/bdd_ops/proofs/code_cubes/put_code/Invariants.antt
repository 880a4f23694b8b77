use Rattle.std.proofs.Common.{◌≡◌, ◌+◌, ◌≤◌}
use Rattle.std.specs.Prelude.{Ok}
use Rattle.node_tree.specs.Tree.{top}
use Rattle.node_table.specs.Table.{tree_of}
use Rattle.bdd_ops.specs.Applied.{Makes}
use Rattle.bdd_ops.specs.Cube.{cube_over}
use Rattle.bdd_ops.specs.Codes.{code_literals, block_code_literals}
use Rattle.bdd_ops.proofs.code_cubes.put_code.Given as goal

abbrev pub invariant-loop-bits : goal.invariant-loop-bits
invariant-loop-bits l = record {
  few : l.bits ≤ l.part.block.bits;
  made : Makes (tree_of l.table l.made) l.fn.table l.table (Ok l.made);
  over : cube_over (code_literals l.part.block.first l.bits l.code) (tree_of l.table l.made) ≡ cube_over (block_code_literals l.part) (tree_of l.fn.table l.fn.rest);
  below : 1 ≤ l.bits → l.part.block.first + l.bits ≤ top (tree_of l.table l.made);
}

abbrev pub decreases-loop-bits : goal.decreases-loop-bits
decreases-loop-bits l = l.bits
