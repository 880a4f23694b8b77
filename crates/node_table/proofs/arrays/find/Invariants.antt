use Rattle.std.proofs.Common.{length}
use Rattle.node_table.specs.Arrays.{node_in}
use Rattle.node_table.proofs.Chaining.{Seeks}
use Rattle.node_table.proofs.arrays.find.Given as goal

abbrev pub invariant-loop-at : goal.invariant-loop-at
invariant-loop-at l = Seeks (node_in l.slots) (length l.heads) l.bucket l.node l.at

abbrev pub decreases-loop-at : goal.decreases-loop-at
decreases-loop-at l = l.at
