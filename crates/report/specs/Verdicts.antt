-- The verdicts on the properties of a specification, with a witness for each false one.
use Rattle.std.specs.Prelude.{ℕ, ◌+◌, List, [], ◌∷◌}
use Rattle.report.specs.declared.shown.Shown.{Shown}

pub data Verdict : Type 0 where
  True : Verdict
  False : (witness : List Shown) → Verdict

-- how many verdicts of a row are false, and of all rows
abbrev pub false_of : Verdict → ℕ
false_of True = 0
false_of (False witness) = 1

abbrev pub false_in : List Verdict → ℕ
false_in [] = 0
false_in (v ∷ row) = false_of v + false_in row

abbrev pub false_count : List (List Verdict) → ℕ
false_count [] = 0
false_count (row ∷ rows) = false_in row + false_count rows
