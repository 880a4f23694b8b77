use Rattle.std.proofs.Common.{◌≡◌, ◌≤◌, ℕ, vec_capacity}
use Rattle.std.specs.Prelude.{slice_index_or}
use Rattle.node_table.specs.Marks.{IsReached, ReachesAll}
use Rattle.node_table.proofs.collect.reach_all.Given as goal

abbrev pub invariant-loop-root : goal.invariant-loop-root
invariant-loop-root l = record {
  reached : IsReached l.marks l.waiting.items l.round;
  rounds : (k : ℕ) → slice_index_or l.marks k 0 ≤ l.round;
  reaches : ReachesAll l.initial.marks l.marks l.round l.roots l.root-index;
  room : vec_capacity l.waiting ≡ vec_capacity l.initial.waiting;
}
