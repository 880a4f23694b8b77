use Rattle.std.proofs.Common.{◌≡◌, ℕ, ◌<◌}
use Rattle.std.specs.Prelude.{slice_index_or}
use Rattle.node_table.proofs.marks.new_round.Given as goal

abbrev pub invariant-loop-mark : goal.invariant-loop-mark
invariant-loop-mark l = (h : ℕ) → h < l.mark-index → slice_index_or l.marks h 0 ≡ 0
