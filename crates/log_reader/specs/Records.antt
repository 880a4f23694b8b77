-- The records of a log: its events in order, up to its first fault.
use Rattle.std.specs.Prelude.{ℕ, ◌+◌, ◌-◌, ◌*◌, List, [], ◌∷◌, drop, map, Option, Some, None, Bool, true, false, ◌&&◌, not, nat_eq, nat_le, nat_lt, if◌then◌else◌}
use Rattle.std.specs.List.{starts_with}
use Rattle.qtl_syntax.specs.Tree.{Text}
use Rattle.qtl_truth.specs.declared.event.Event.{Event}
use Rattle.log_reader.specs.Fields.{drop_blanks, text_of}
use Rattle.log_reader.specs.Lines.{fields, in_quotes, Lines, lines_from}
use Rattle.log_reader.specs.Faults.{Fault, QuoteOpen, EmptyName, BadTime, TimeBack, is_empty, first_fault}

-- Times

-- the number that decimal digits spell behind a number, if all bytes are digits
abbrev pub decimal_from : ℕ → Text → Option ℕ
decimal_from n [] = Some n
decimal_from n (b ∷ bs) = if nat_le 48 b && nat_le b 57 then decimal_from (10 * n + (b - 48)) bs else None

abbrev pub if_time : Option ℕ → Option ℕ
if_time None = None
if_time (Some n) = if nat_lt n 18446744073709551616 then Some n else None

-- one or more digits whose value has 64 bits
abbrev pub time_of : Text → Option ℕ
time_of [] = None
time_of (b ∷ bs) = if_time (decimal_from 0 (b ∷ bs))

abbrev pub with_first : Text → Option (List Text × Text) → Option (List Text × Text)
with_first t None = None
with_first t (Some p) = Some (t ∷ p.0, p.1)

-- all texts but the last, and the last
abbrev pub split_last : List Text → Option (List Text × Text)
split_last [] = None
split_last (t ∷ []) = Some ([], t)
split_last (t ∷ u ∷ us) = with_first t (split_last (u ∷ us))

-- Lines

-- what a line is: no record, an event, or a fault
pub data Judged : Type 0 where
  Nothing : Judged
  Good : Event → Judged
  Bad : Fault → Judged

-- the time must be there, and not below that of the event before
abbrev pub at_time : ℕ → Text → List Text → Option ℕ → Judged
at_time before name args None = Bad BadTime
at_time before name args (Some now) =
    if nat_lt now before then Bad (TimeBack before now) else Good (record { name = name; args = args; time = now })

abbrev pub timed_event : ℕ → Text → Option (List Text × Text) → Judged
timed_event before name None = Bad BadTime
timed_event before name (Some p) = at_time before name p.0 (time_of p.1)

abbrev pub named_event : Bool → ℕ → Text → List Text → Judged
named_event true before name args = timed_event before name (split_last args)
named_event false before name args = Good (record { name = name; args = args; time = 0 })

-- The event of a line's texts: a name that isn't empty, then the arguments, and in a timed log the time at the end.
-- In an untimed log the time is 0.
abbrev pub event_of : Bool → ℕ → List Text → Judged
event_of timed before [] = Bad EmptyName
event_of timed before (name ∷ args) = if is_empty name then Bad EmptyName else named_event timed before name args

-- blanks alone, or nothing
abbrev pub is_blank_line : Text → Bool
is_blank_line line = is_empty (drop_blanks line)

-- a line without a fault that has a place
abbrev pub judged_fields : Bool → ℕ → Text → Judged
judged_fields timed before line = if is_blank_line line then Nothing else event_of timed before (map text_of (fields line))

abbrev pub or_judged : Option Fault → Judged → Judged
or_judged None judged = judged
or_judged (Some fault) judged = Bad fault

-- a line with its line feed
abbrev pub judged_line : Bool → ℕ → Text → Judged
judged_line timed before line = or_judged (first_fault line) (judged_fields timed before line)

-- The line behind the last line feed. As long as the log goes on it is no record yet, and only a fault whose place is
-- there counts; at the end of the log it is a line as any other, and its quotes must be closed.
abbrev pub judged_last : Bool → Bool → ℕ → Text → Judged
judged_last timed ended before line =
    or_judged (first_fault line)
    (if not ended then Nothing else (if in_quotes line then Bad QuoteOpen else judged_fields timed before line))

-- Logs

-- what comes behind the events: nothing, or a fault in the record of this number
pub data End : Type 0 where
  Rest : End
  At : (number : ℕ) → Fault → End

-- the events up to the first fault, and that fault
pub record Cut : Type 0 where
  pub events : List Event
  pub end : End

abbrev pub no_events : End → Cut
no_events end = record { events = []; end = end }

abbrev pub with_event : Event → Cut → Cut
with_event e c = record { events = e ∷ c.events; end = c.end }

abbrev pub cut_last : ℕ → Judged → Cut
cut_last number Nothing = no_events Rest
cut_last number (Good e) = with_event e (no_events Rest)
cut_last number (Bad fault) = no_events (At number fault)

-- A line, and then the records of the lines behind it: those where it is no record, and those where it is an event.
abbrev pub cut_behind : ℕ → Judged → Cut → (Event → Cut) → Cut
cut_behind number Nothing others later = others
cut_behind number (Good e) others later = with_event e (later e)
cut_behind number (Bad fault) others later = no_events (At number fault)

-- The records of lines. `number` is that of the next record, `before` the time of the event before.
abbrev pub cut_lines : Bool → Bool → ℕ → ℕ → List Text → Text → Cut
cut_lines timed ended number before [] last = cut_last number (judged_last timed ended before last)
cut_lines timed ended number before (line ∷ lines) last =
    cut_behind number (judged_line timed before line)
    (cut_lines timed ended number before lines last)
    (λ e. cut_lines timed ended (number + 1) e.time lines last)

-- the bytes EF BB BF
abbrev pub mark : Text
mark = 239 ∷ 187 ∷ 191 ∷ []

-- a byte-order mark at the very start of the log is no part of its first line
abbrev pub without_mark : Text → Text
without_mark bytes = if starts_with nat_eq bytes mark then drop 3 bytes else bytes

abbrev pub cut_in : Bool → Bool → ℕ → ℕ → Lines → Cut
cut_in timed ended number before lines = cut_lines timed ended number before lines.whole lines.last

-- The events of a log's bytes up to the first fault. `ended` says whether these are all its bytes.
abbrev pub cut : Text → Bool → Bool → Cut
cut bytes timed ended = cut_in timed ended 1 0 (lines_from [] (without_mark bytes))
