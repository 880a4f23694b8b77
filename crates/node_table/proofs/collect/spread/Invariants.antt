use Rattle.std.proofs.Common.{◌≡◌, ◌≤◌, ◌-◌, ℕ, length, vec_capacity}
use Rattle.std.specs.Prelude.{slice_index_or}
use Rattle.node_table.specs.Arrays.{node_in}
use Rattle.node_table.specs.Marks.{IsReached, MarksNodes, Spreads}
use Rattle.node_table.proofs.Marking.{IsDone}
use Rattle.node_table.proofs.collect.spread.Given as goal

abbrev pub invariant-loop-at : goal.invariant-loop-at
invariant-loop-at l = record {
  reached : IsReached l.marks l.waiting.items l.round;
  rounds : (k : ℕ) → slice_index_or l.marks k 0 ≤ l.round;
  nodes : MarksNodes (node_in l.slots) l.marks l.round;
  spreads : Spreads (node_in l.slots) l.initial.marks l.marks l.round;
  done : IsDone (node_in l.slots) l.marks l.waiting.items l.round l.at;
  within : l.at ≤ length l.waiting.items;
  room : vec_capacity l.waiting ≡ vec_capacity l.initial.waiting;
}

abbrev pub decreases-loop-at : goal.decreases-loop-at
decreases-loop-at l = length l.marks - l.at
