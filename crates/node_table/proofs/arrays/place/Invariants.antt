use Rattle.std.proofs.Common.{length}
use Rattle.node_table.specs.Arrays.{node_in}
use Rattle.node_table.proofs.Chaining.{Passes}
use Rattle.node_table.proofs.arrays.place.Given as goal

abbrev pub invariant-loop-at : goal.invariant-loop-at
invariant-loop-at l = Passes (node_in l.slots) (length l.heads) l.bucket l.number l.at

abbrev pub decreases-loop-at : goal.decreases-loop-at
decreases-loop-at l = l.at
