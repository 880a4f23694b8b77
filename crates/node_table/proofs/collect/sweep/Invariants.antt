use Rattle.std.proofs.Common.{length}
use Rattle.node_table.specs.Arrays.{node_in, chain_in}
use Rattle.node_table.proofs.Sweeping.{Sweeps}
use Rattle.node_table.proofs.collect.sweep.Given as goal

abbrev pub invariant-loop-at : goal.invariant-loop-at
invariant-loop-at l = Sweeps (node_in l.initial.slots) (node_in l.slots) (chain_in l.slots) l.marks l.round l.at l.free (length l.slots)

abbrev pub decreases-loop-at : goal.decreases-loop-at
decreases-loop-at l = l.at
