use Rattle.std.proofs.Common.{◌≡◌, ℕ, ◌+◌, ◌*◌, ◌≤◌, true, false, length, take}
use Rattle.std.specs.Prelude.{not, ◌&&◌}
use Rattle.std.specs.List.{list_any}
use Rattle.node_table.specs.Table.{tree_of, is_marked}
use Rattle.code_reclaim.specs.Told.{differs}
use Rattle.code_reclaim.specs.Candidates.{is_candidate}
use Rattle.code_reclaim.specs.Search.{unmarked}
use Rattle.code_reclaim.proofs.told.strike_told.Given as goal

abbrev pub invariant-loop-h : goal.invariant-loop-h
invariant-loop-h g l = record {
  room : l.table.room ≡ l.fn.table.room;
  nodes : l.table.nodes ≡ l.fn.table.nodes;
  count : length l.candidates ≡ length l.fn.candidates;
  struck : (i : ℕ) → is_candidate l.candidates i ≡ (is_candidate l.fn.candidates i && not (list_any (λ h. differs l.block.first l.block.bits (l.from + i) (tree_of l.fn.table h)) (take l.h-index l.remembered)));
  marks : (i : ℕ) → is_candidate l.candidates i ≡ true → (k : ℕ) → is_marked l.table k ≡ true → differs l.block.first l.block.bits (l.from + i) (tree_of l.table k) ≡ false;
  cost : l.steps + length l.fn.candidates * (2 * l.block.bits + 1) * unmarked l.table ≤ l.initial.steps + length l.fn.candidates * (2 * l.block.bits + 1) * unmarked l.initial.table;
  idle : l.h-index ≡ 0 → l.steps ≡ l.initial.steps;
}
