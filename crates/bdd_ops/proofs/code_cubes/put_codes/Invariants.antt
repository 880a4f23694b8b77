use Rattle.std.proofs.Common.{◌≤◌, length, drop}
use Rattle.std.specs.Prelude.{Ok}
use Rattle.bdd_ops.specs.Applied.{Makes}
use Rattle.bdd_ops.specs.Cube.{cube_tree}
use Rattle.bdd_ops.specs.Codes.{code_list_literals}
use Rattle.bdd_ops.proofs.code_cubes.put_codes.Given as goal

abbrev pub invariant-loop-left : goal.invariant-loop-left
invariant-loop-left l = record { few : l.left ≤ length l.codes; made : Makes (cube_tree (code_list_literals (drop l.left l.codes))) l.fn.table l.table (Ok l.made) }

abbrev pub decreases-loop-left : goal.decreases-loop-left
decreases-loop-left l = l.left
