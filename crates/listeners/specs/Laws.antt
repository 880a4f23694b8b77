-- What a reader gets of a row.
use Rattle.std.specs.Prelude.{◌≡◌, ℕ, List, [], ◌++◌, Some}
use Rattle.csv.specs.Machine.{next_record}
use Rattle.csv.specs.Reading.{default_config}
use Rattle.csv.specs.declared.parser.State.TheVariants.{StartRecord}
use Rattle.listeners.specs.Lines.{csv_fields, csv_row}
use Rattle.listeners.specs.declared.told.Told.{Told}

-- where a row stands before other bytes, the next record by the defaults of `csv` is its three
-- fields, whatever bytes these hold, and those other bytes are left
abbrev pub RowReadsBack : Type 0
RowReadsBack =
    (told : Told) (behind : List ℕ) →
    next_record default_config StartRecord [] [] (csv_row told ++ behind)
    ≡ Some (csv_fields told, StartRecord, behind)
