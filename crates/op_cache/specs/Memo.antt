-- What a memo holds: pairs of a place and a result. They are spoken of by look-ups, so their order doesn't matter.
use Rattle.std.specs.Prelude.{◌≡◌, ℕ, ◌+◌, ◌≤◌, List, length, Option, Some, if◌then◌else◌}
use Rattle.std.specs.List.{IsDistinct}
use Rattle.std.specs.Map.{lookup, keys_of}
use Rattle.op_cache.specs.declared.key.Place.{Place}
use Rattle.op_cache.specs.Keys.{same_place}

-- what the pairs give for a place
abbrev pub result_at : {H : Type 0} → List (Place × H) → Place → Option H
result_at pairs p = lookup (same_place p) pairs

-- a memo: how many pairs it can hold, and its pairs
pub record Memo (H : Type 0) : Type 0 where
  pub entries : ℕ
  pub pairs : List (Place × H)

-- what holds of every memo: no place stands twice, and there are no more pairs than it can hold
pub record IsMemo {H : Type 0} (memo : Memo H) : Type 0 where
  pub distinct : IsDistinct same_place (keys_of memo.pairs)
  pub within : length memo.pairs ≤ memo.entries

-- the later pairs are the earlier ones and this one
pub record Adds {H : Type 0} (before : List (Place × H)) (p : Place) (h : H) (after : List (Place × H)) : Type 0 where
  pub results : (q : Place) → result_at after q ≡ (if same_place p q then Some h else result_at before q)
  pub count : length after ≡ length before + 1
