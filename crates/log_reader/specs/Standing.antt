-- What a reader stands for: the bytes fed so far, of which it keeps what the records to come need.
use Rattle.std.specs.Prelude.{◌≡◌, ◌⊎◌, ℕ, ◌+◌, List, [], ◌∷◌, ◌++◌, length, map, drop, Option, Some, None, Result, Ok, Err, Bool, true, false}
use Rattle.qtl_syntax.specs.Tree.{Text}
use Rattle.qtl_truth.specs.declared.event.Event.{Event}
use Rattle.log_reader.specs.Fields.{text_of}
use Rattle.log_reader.specs.Lines.{finished, begun, lines_from}
use Rattle.log_reader.specs.Faults.{Fault, first_fault}
use Rattle.log_reader.specs.Faults as fault
use Rattle.log_reader.specs.Records.{Judged, event_of, End, Rest, At, Cut, no_events, cut, cut_in, without_mark}
use Rattle.log_reader.specs.Places.{place_of}
use Rattle.log_reader.specs.declared.place.Place.{Place}
use Rattle.log_reader.specs.declared.place.Place.TheVariants.{Before, Plain, Inside, AtQuote, Behind}
use Rattle.log_reader.specs.declared.fault.LogFault.{LogFault}
use Rattle.log_reader.specs.declared.fault.LogFault.TheVariants.{QuoteOpen, AfterQuote, RecordTooLong, TooManyFields, EmptyName, BadTime, TimeBack, NoMemory}

-- a fault with the number of its record
abbrev pub numbered : ℕ → Fault → LogFault
numbered number fault.QuoteOpen = QuoteOpen number
numbered number fault.AfterQuote = AfterQuote number
numbered number fault.RecordTooLong = RecordTooLong number
numbered number fault.TooManyFields = TooManyFields number
numbered number fault.EmptyName = EmptyName number
numbered number fault.BadTime = BadTime number
numbered number (fault.TimeBack before now) = TimeBack number before now

-- what is left of the records behind so many events
abbrev pub left : ℕ → Cut → Cut
left given c = record { events = drop given c.events; end = c.end }

abbrev pub answer_at : List Event → End → Result (Option Event) LogFault
answer_at [] Rest = Ok None
answer_at [] (At number fault) = Err (numbered number fault)
answer_at (e ∷ events) end = Ok (Some e)

-- the first of these records: an event, a fault, or none yet
abbrev pub answer : Cut → Result (Option Event) LogFault
answer c = answer_at c.events c.end

-- How far a reader is. The event that it gave last has this time; where it gave none that is 0. The line begun has so
-- many bytes; the fields that a comma ended have these texts, and the field behind them these bytes, with the next byte
-- at this place. The bytes behind are not looked at yet.
pub record Reading : Type 0 where
  pub timed : Bool
  pub ended : Bool
  pub given : ℕ
  pub last_time : ℕ
  pub fault : Option LogFault
  pub is_begun : Bool
  pub length : ℕ
  pub texts : List Text
  pub field : Text
  pub place : Place
  pub rest : Text

-- the line begun is this one, and has no fault
pub record Fits (line : Text) (r : Reading) : Type 0 where
  pub texts : map text_of (finished line) ≡ r.texts
  pub field : begun line ≡ r.field
  pub place : place_of r.field ≡ r.place
  pub length : length line ≡ r.length
  pub right : first_fault line ≡ None
  pub first : r.is_begun ≡ false → line ≡ []

-- what may still be fed, and whether the log then ends
abbrev pub IsLater : Bool → Text → Bool → Type 0
IsLater true more ended = (more ≡ []) × (ended ≡ true)
IsLater false more ended = Unit {0}

-- bytes at the very start lose the mark
abbrev pub unmarked : Bool → Text → Text
unmarked true bytes = bytes
unmarked false bytes = without_mark bytes

-- the records from the line begun on
abbrev pub records_from : Reading → Text → Text → Bool → Cut
records_from r line more ended = cut_in r.timed ended (r.given + 1) r.last_time (lines_from line (unmarked r.is_begun (r.rest ++ more)))

-- whatever comes, the records behind those given are those from the line begun on
pub record Goes (bytes : Text) (r : Reading) : Type 0 where
  pub line : Text
  pub fits : Fits line r
  pub coming : (more : Text) (ended : Bool) → IsLater r.ended more ended → left r.given (cut (bytes ++ more) r.timed ended) ≡ records_from r line more ended

-- whatever comes, this fault is behind those given
pub record Fails (bytes : Text) (r : Reading) (f : LogFault) : Type 0 where
  pub fault : Fault
  pub named : numbered (r.given + 1) fault ≡ f
  pub coming : (more : Text) (ended : Bool) → IsLater r.ended more ended → left r.given (cut (bytes ++ more) r.timed ended) ≡ no_events (At (r.given + 1) fault)

abbrev pub StandsIn : Text → Reading → Option LogFault → Type 0
StandsIn bytes r None = Goes bytes r
StandsIn bytes r (Some f) = Fails bytes r f

-- a reader stands for these bytes
abbrev pub Stands : Text → Reading → Type 0
Stands bytes r = StandsIn bytes r r.fault

-- the answer is want of memory, or the next record of the bytes for which the reader stands
abbrev pub IsNext : Text → Reading → Result (Option Event) LogFault → Type 0
IsNext bytes r result = (result ≡ Err NoMemory) ⊎ (result ≡ answer (left r.given (cut bytes r.timed r.ended)))

-- a line that is blank so far
abbrev pub is_blank_so_far : List Text → Place → Bool
is_blank_so_far [] Before = true
is_blank_so_far [] Plain = false
is_blank_so_far [] Inside = false
is_blank_so_far [] AtQuote = false
is_blank_so_far [] Behind = false
is_blank_so_far (t ∷ ts) place = false

-- the texts of all fields of the line begun
abbrev pub all_texts : Reading → List Text
all_texts r = r.texts ++ text_of r.field ∷ []

-- what the line begun is, where it is no blank one and the field begun is its last
abbrev pub judged_reading : Reading → Judged
judged_reading r = event_of r.timed r.last_time (all_texts r)

-- the reading behind a line
abbrev pub behind_line : Reading → Text → Reading
behind_line r rest = record r { length = 0; texts = []; field = []; place = Before; rest = rest }

-- the reading behind a line that is an event of this time
abbrev pub behind_event : Reading → ℕ → Text → Reading
behind_event r time rest = record (behind_line r rest) { given = r.given + 1; last_time = time }

-- a reader that nothing was fed to
abbrev pub fresh_reading : Bool → Reading
fresh_reading timed = record { timed = timed; ended = false; given = 0; last_time = 0; fault = None; is_begun = false; length = 0; texts = []; field = []; place = Before; rest = [] }

abbrev pub with_rest : Reading → Text → Reading
with_rest r rest = record r { rest = rest }

-- one event more is given where one came
abbrev pub given_next : ℕ → Result (Option Event) LogFault → ℕ
given_next given (Ok (Some e)) = given + 1
given_next given (Ok None) = given
given_next given (Err f) = given

-- the fault that stays, if it is one of the log
abbrev pub lasting : LogFault → Option LogFault
lasting (QuoteOpen number) = Some (QuoteOpen number)
lasting (AfterQuote number) = Some (AfterQuote number)
lasting (RecordTooLong number) = Some (RecordTooLong number)
lasting (TooManyFields number) = Some (TooManyFields number)
lasting (EmptyName number) = Some (EmptyName number)
lasting (BadTime number) = Some (BadTime number)
lasting (TimeBack number before now) = Some (TimeBack number before now)
lasting NoMemory = None

-- the answer is the next one of the bytes, and the reading behind it stands for them
pub record Sought (bytes : Text) (r t : Reading) (result : Result (Option Event) LogFault) : Type 0 where
  pub next : IsNext bytes r result
  pub stands : Stands bytes t
