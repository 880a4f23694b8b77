-- How a reader keeps what it stands for: a buffer, and places in it.
use Rattle.std.specs.Prelude.{◌≡◌, ◌⊎◌, ℕ, ◌+◌, ◌-◌, ◌^◌, ◌<◌, ◌≤◌, List, [], take, drop, Some, None, Result, Ok, Err, true, false, vec_len, slice_index}
use Rattle.qtl_syntax.specs.Tree.{Text}
use Rattle.qtl_truth.specs.declared.event.Event.{Event}
use Rattle.log_reader.specs.Faults.{Fault}
use Rattle.log_reader.specs.Records.{Judged, cut, named_event, Good, Bad}
use Rattle.log_reader.specs.Places.{is_in_field, is_inside, place_of, run_on}
use Rattle.log_reader.specs.Standing.{Reading, numbered, left, answer, Goes, Fails, all_texts, judged_reading, behind_event}
use Rattle.log_reader.specs.declared.place.Place.{Place}
use Rattle.log_reader.specs.declared.place.Place.TheVariants.{Before}
use Rattle.log_reader.specs.declared.scan.Scanned.{Scanned}
use Rattle.log_reader.specs.declared.fault.LogFault.{LogFault}
use Rattle.log_reader.specs.declared.fault.LogFault.TheVariants.{NoMemory}
use Rattle.log_reader.specs.declared.state.State.{State}
use Rattle.log_reader.specs.declared.state.Turn.{Turn}
use Rattle.log_reader.specs.declared.state.Turn.TheVariants.{More, Wait, Found}

-- the bytes between two places
abbrev pub span : ℕ → ℕ → Text → Text
span from to bytes = take (to - from) (drop from bytes)

-- How far a scan came from a place on: the bytes up to there are the field's, and the next one isn't, where the scan
-- stopped before its end.
pub record IsScanned (bytes : Text) (from end : ℕ) (place : Place) (s : Scanned) : Type 0 where
  pub after : from ≤ s.seen
  pub within : s.seen ≤ end
  pub run : run_on (Some place) (span from s.seen bytes) ≡ Some s.place
  pub stops : s.seen < end → is_in_field s.place (slice_index bytes s.seen) ≡ false

-- the reading that a state keeps
abbrev pub reading_of : State → Reading
reading_of s = record {
  timed = s.timed;
  ended = s.ended;
  given = s.given;
  last_time = s.last_time;
  fault = s.fault;
  is_begun = s.is_begun;
  length = s.before + (s.seen - s.from);
  texts = s.texts;
  field = span s.from s.seen s.held.items;
  place = s.place;
  rest = drop s.seen s.held.items;
}

-- the places are in order, the line is short, and the place is that behind the field begun
pub record IsState (s : State) : Type 0 where
  pub in_order : s.from ≤ s.seen
  pub within : s.seen ≤ vec_len s.held
  pub short : s.before + (s.seen - s.from) ≤ 65536
  pub placed : place_of (span s.from s.seen s.held.items) ≡ s.place
  pub unread : s.is_begun ≡ false → s.from ≡ s.seen

-- nothing else changes than how far the line is read
pub record IsSame (s t : State) : Type 0 where
  pub timed : t.timed ≡ s.timed
  pub ended : t.ended ≡ s.ended
  pub fault : t.fault ≡ s.fault
  pub is_begun : t.is_begun ≡ s.is_begun
  pub held : t.held ≡ s.held

-- the line of the state may be ended by its next byte
pub record IsAtByte (s : State) : Type 0 where
  pub sound : IsState s
  pub started : s.is_begun ≡ true
  pub here : s.seen < vec_len s.held
  pub out : is_inside s.place ≡ false
  pub room : s.given + 1 < 2 ^ 64

-- a field was ended
abbrev pub behind_field : Reading → Text → Reading
behind_field r rest = record r { length = r.length + 1; texts = all_texts r; field = []; place = Before; rest = rest }

abbrev pub with_texts : Reading → List Text → Reading
with_texts r texts = record r { texts = texts }

-- an event was made of the texts, and the next line begins so many bytes behind
pub record IsMade (s t : State) (skip : ℕ) (e : Event) : Type 0 where
  pub event : judged_reading (reading_of s) ≡ Good e
  pub later : t.seen ≡ s.seen + skip
  pub reading : reading_of t ≡ behind_event (reading_of s) e.time (drop (s.seen + skip) s.held.items)

-- this fault of the log, with the number of its record, is what is found
pub record IsFound (number : ℕ) (found : Judged) (f : LogFault) : Type 0 where
  pub fault : Fault
  pub named : numbered number fault ≡ f
  pub bad : found ≡ Bad fault

-- what the line of a state is, by its name that isn't empty, and the texts behind it
abbrev pub judged_args : State → Text → List Text → Judged
judged_args s name args = named_event s.timed s.last_time name args

-- of these texts this time was taken, which leaves the event's arguments, or a fault was found
abbrev pub IsTaken : State → Text → (texts args : List Text) → Result ℕ LogFault → Type 0
IsTaken s name texts args (Ok time) =
    judged_args s name texts ≡ Good (record { name = name; args = args; time = time })
IsTaken s name texts args (Err f) = IsFound (s.given + 1) (judged_args s name texts) f

-- no event was made
abbrev pub IsNotMade : State → State → LogFault → Type 0
IsNotMade s t f =
    ((f ≡ NoMemory) × (reading_of t ≡ reading_of s)) ⊎
    (IsFound (s.given + 1) (judged_reading (reading_of s)) f × (t.given ≡ s.given))

-- one event more where one was found
abbrev pub given_after : ℕ → Result Turn LogFault → ℕ
given_after given (Ok (Found e)) = given + 1
given_after given (Ok More) = given
given_after given (Ok Wait) = given
given_after given (Err f) = given

-- what a step says of the bytes for which the reading before it stands
abbrev pub Turned : Text → Reading → Reading → Result Turn LogFault → Type 0
Turned bytes r t (Ok More) = Goes bytes t
Turned bytes r t (Ok Wait) = Goes bytes t × (answer (left r.given (cut bytes r.timed r.ended)) ≡ Ok None)
Turned bytes r t (Ok (Found e)) = Goes bytes t × (answer (left r.given (cut bytes r.timed r.ended)) ≡ Ok (Some e))
Turned bytes r t (Err f) = ((f ≡ NoMemory) × Goes bytes t) ⊎ Fails bytes t f
