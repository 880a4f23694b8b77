-- The faults of a line that have a place: each is said of one byte and the bytes of the line before it.
use Rattle.std.specs.Prelude.{ℕ, [], ◌∷◌, ◌++◌, length, Option, Some, None, Bool, true, false, ◌&&◌, not, ◌==◌, nat_le, if◌then◌else◌}
use Rattle.qtl_syntax.specs.Tree.{Text}
use Rattle.log_reader.specs.Fields.{is_blank, Form, Bare, Open, Closed, form_of}
use Rattle.log_reader.specs.Lines.{ends_field, finished, begun}

-- why a line is no record
pub data Fault : Type 0 where
  QuoteOpen : Fault  -- a quoted field isn't closed at the end of the log
  AfterQuote : Fault  -- a byte stands behind a closing quote that may not
  RecordTooLong : Fault  -- the line has more than 65,536 bytes
  TooManyFields : Fault  -- it has more than 64 fields
  EmptyName : Fault  -- the first field is empty
  BadTime : Fault  -- the last field is no time
  TimeBack : (before now : ℕ) → Fault  -- the time is below that of the event before

abbrev pub is_empty : Text → Bool
is_empty [] = true
is_empty (b ∷ bs) = false

-- A byte that may not stand behind a closing quote: no blank, no comma, no line feed. A quote right behind the closing
-- one doubles it, so that it closes nothing.
abbrev pub is_misplaced : Form → ℕ → Bool
is_misplaced Bare b = false
is_misplaced Open b = false
is_misplaced (Closed text behind) b = not (is_blank b) && (not (b == 44) && (not (b == 10) && not (b == 34 && is_empty behind)))

-- The fault whose place is this byte behind this front of the line: it is byte 65,537 of the line, it is misplaced, or
-- it is the 64th comma outside quotes.
abbrev pub fault_at : Text → ℕ → Option Fault
fault_at front b =
    if nat_le 65536 (length front) then Some RecordTooLong
    else (if is_misplaced (form_of (begun front)) b then Some AfterQuote
    else (if ends_field (begun front) b && nat_le 63 (length (finished front)) then Some TooManyFields else None))

abbrev pub or_else : Option Fault → Option Fault → Option Fault
or_else None later = later
or_else (Some fault) later = Some fault

-- the fault of the least place in these bytes of a line; the first argument is the front before them
abbrev pub first_fault_from : Text → Text → Option Fault
first_fault_from front [] = None
first_fault_from front (b ∷ bs) = or_else (fault_at front b) (first_fault_from (front ++ b ∷ []) bs)

-- the fault of the least place in a line
abbrev pub first_fault : Text → Option Fault
first_fault line = first_fault_from [] line
