use Rattle.std.proofs.Common.{◌≡◌, ℕ, ◌+◌, ◌<◌, length}
use Rattle.std.specs.Prelude.{◌&&◌, not, is_some}
use Rattle.value_codes.specs.Pairs.{value_of}
use Rattle.code_reclaim.specs.Candidates.{is_candidate}
use Rattle.code_reclaim.specs.Swept.{stands_in}
use Rattle.code_reclaim.proofs.reclaim.find_candidates.Given as goal

abbrev pub invariant-loop-i : goal.invariant-loop-i
invariant-loop-i l = record {
  count : length l.candidates ≡ length l.fn.candidates;
  found : (k : ℕ) → k < l.i → is_candidate l.candidates k ≡ (is_some (value_of l.book.pairs (l.from + k)) && not (stands_in l.needed (l.from + k)));
}
