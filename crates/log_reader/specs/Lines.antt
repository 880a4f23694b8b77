-- How bytes are cut into lines, and a line into fields. A line has no line feed at its end here.
use Rattle.std.specs.Prelude.{ℕ, List, [], ◌∷◌, ◌++◌, Bool, ◌&&◌, not, ◌==◌, if◌then◌else◌}
use Rattle.qtl_syntax.specs.Tree.{Text}
use Rattle.log_reader.specs.Fields.{form_of, is_open}

-- a comma behind a field, outside its quotes, ends the field
abbrev pub ends_field : Text → ℕ → Bool
ends_field field b = b == 44 && not (is_open (form_of field))

-- the fields of a line that a comma ends; the first argument is the field begun
abbrev pub finished_from : Text → Text → List Text
finished_from field [] = []
finished_from field (b ∷ bs) = if ends_field field b then field ∷ finished_from [] bs else finished_from (field ++ b ∷ []) bs

-- and the field behind the last of these commas
abbrev pub begun_from : Text → Text → Text
begun_from field [] = field
begun_from field (b ∷ bs) = if ends_field field b then begun_from [] bs else begun_from (field ++ b ∷ []) bs

abbrev pub finished : Text → List Text
finished line = finished_from [] line

abbrev pub begun : Text → Text
begun line = begun_from [] line

-- the fields of a line: those that stand between commas outside quotes
abbrev pub fields : Text → List Text
fields line = finished line ++ begun line ∷ []

-- what stands behind these bytes of a line stands in quotes
abbrev pub in_quotes : Text → Bool
in_quotes line = is_open (form_of (begun line))

-- a line feed behind a line, outside quotes, ends the line
abbrev pub ends_line : Text → ℕ → Bool
ends_line line b = b == 10 && not (in_quotes line)

-- the lines that a line feed ends, and the line behind the last of these
pub record Lines : Type 0 where
  pub whole : List Text
  pub last : Text

abbrev pub with_line : Text → Lines → Lines
with_line line lines = record { whole = line ∷ lines.whole; last = lines.last }

-- the lines of some bytes; the first argument is the line begun
abbrev pub lines_from : Text → Text → Lines
lines_from line [] = record { whole = []; last = line }
lines_from line (b ∷ bs) = if ends_line line b then with_line line (lines_from [] bs) else lines_from (line ++ b ∷ []) bs
