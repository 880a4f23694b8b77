-- What a tally and a report in rows write.
use Rattle.std.specs.Prelude.{ℕ, ◌-◌, List, [], ◌∷◌, ◌++◌, length, take, codes, decimal, nat_eq}
use Rattle.std.specs.Prelude.{if◌then◌else◌}
use Rattle.std.specs.List.{ends_with}
use Rattle.csv.specs.Writing.{default_writer, row_text}
use Rattle.listeners.specs.declared.told.Told.{Told}

-- the line of a tally that was told so many violations
abbrev pub tally_line : ℕ → List ℕ
tally_line count = codes "tally " ++ (decimal count ++ codes "\n")

-- a line without the line feed that ends it
abbrev pub without_line_feed : List ℕ → List ℕ
without_line_feed line =
    if ends_with nat_eq line (codes "\n") then take (length line - 1) line else line

-- the three fields of a violation: its event, its property's name, and its line
abbrev pub csv_fields : Told → List (List ℕ)
csv_fields told = decimal told.event ∷ told.name ∷ without_line_feed told.line ∷ []

-- the row of these, as `csv` writes it by default
abbrev pub csv_row : Told → List ℕ
csv_row told = row_text default_writer (csv_fields told)
