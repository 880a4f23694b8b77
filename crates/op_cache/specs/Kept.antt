-- What a memo keeps: entries that are linked, and room for as many as it can hold.
use Rattle.std.specs.Prelude.{ℕ, ◌<◌, ◌≤◌, List, length, take}
use Rattle.std.specs.List.{All, IsDistinct}
use Rattle.std.specs.Map.{keys_of}
use Rattle.op_cache.specs.declared.heads.Head.{Head}
use Rattle.op_cache.specs.declared.chains.Entry.{Entry}
use Rattle.op_cache.specs.Keys.{same_place}
use Rattle.op_cache.specs.Chains.{AreLinked, pairs_of}

-- the first `held` entries are linked, and no place stands twice among them; no head was set in a later round
pub record IsKept {H : Type 0} (entries held room : ℕ) (pairs : List (Entry H)) (heads : List Head) (window round : ℕ) : Type 0 where
  pub within : held ≤ entries
  pub reach : held ≤ length pairs
  pub roomy : entries ≤ room
  pub some : 0 < window
  pub wide : window ≤ length heads
  pub rounds : All (λ h. h.round ≤ round) heads
  pub distinct : IsDistinct same_place (keys_of (pairs_of (take held pairs)))
  pub linked : AreLinked (take held pairs) heads window round
