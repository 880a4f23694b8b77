-- A walk along a log: its events are judged one by one, up to one that can't be, and what stops the
-- walk.
use Rattle.std.specs.Prelude.{◌≡◌, ◌⊎◌, ℕ, ◌+◌, ◌≤◌, List, [], ◌∷◌, ◌++◌, take, length, nat_le, Bool, true, false, Option, Some, None, if◌then◌else◌}
use Rattle.qtl_syntax.specs.Tree.{Text}
use Rattle.qtl_truth.specs.declared.event.Event.{Event}
use Rattle.log_reader.specs.Records as log_records
use Rattle.log_reader.specs.Standing.{numbered}
use Rattle.monitor_model.specs.Ends as event_end
use Rattle.run_model.specs.declared.stop.LogStop.{LogStop}
use Rattle.run_model.specs.declared.stop.LogStop.TheVariants.{Unread, Whole, Fault, Long, CodesFull, NodesFull}

-- What is there to be judged

-- how the records of a log are read
pub record Form : Type 0 where
  pub timed : Bool

-- events in order, and what stops a walk behind the last one
pub record Input : Type 0 where
  pub events : List Event
  pub stop : LogStop

-- how far a log was taken: some of it so far, all of it, or as much as the limit lets, behind which
-- it goes on
pub data Close : Type 0 where
  Open : Close
  Ended : Close
  Past : Close

-- the bytes of a log that were taken to be judged
pub record Taken : Type 0 where
  pub given : Text
  pub close : Close

abbrev pub is_ended : Close → Bool
is_ended Open = false
is_ended Ended = true
is_ended Past = false

-- what stops a walk behind the last record, where the records have no fault
abbrev pub stop_of_close : (limit : ℕ) → Close → LogStop
stop_of_close limit Open = Unread
stop_of_close limit Ended = Whole
stop_of_close limit Past = Long limit

abbrev pub or_fault : LogStop → log_records.End → LogStop
or_fault stop log_records.Rest = stop
or_fault stop (log_records.At number why) = Fault (numbered number why)

abbrev pub input_by : LogStop → log_records.Cut → Input
input_by stop c = record { events = c.events; stop = or_fault stop c.end }

-- what is known of a log of which these bytes were taken
abbrev pub known : Form → (limit : ℕ) → Taken → Input
known form limit taken =
    input_by (stop_of_close limit taken.close)
    (log_records.cut taken.given form.timed (is_ended taken.close))

-- as much as a run may take of a log
abbrev pub whole_of : (limit : ℕ) → Text → Taken
whole_of limit all =
    if nat_le (length all) limit then record { given = all; close = Ended }
    else record { given = take limit all; close = Past }

-- the input that a log is
abbrev pub input_of : Form → (limit : ℕ) → Text → Input
input_of form limit all = known form limit (whole_of limit all)

-- the input of a run's logs, which are one
abbrev pub join : List Input → Input
join (input ∷ []) = input
join _ = record { events = []; stop = Unread }

-- this was taken of a log: at most `limit` bytes, and one more that shows that the log goes on
abbrev pub IsTakenOf : Close → (limit : ℕ) → (all left given : Text) → Type 0
IsTakenOf Open limit all left given = all ≡ given ++ left
IsTakenOf Ended limit all left given = (all ≡ given) × (left ≡ [])
IsTakenOf Past limit all left given =
    (length given ≡ limit) × (next : ℕ) × (all ≡ given ++ next ∷ left)

pub record Takes (limit : ℕ) (all left : Text) (taken : Taken) : Type 0 where
  pub few : length taken.given ≤ limit
  pub of_log : IsTakenOf taken.close limit all left taken.given

-- Walks

-- what comes at an event behind these: nothing, or why it can't be judged
abbrev pub Comes : Type 1
Comes = List Event → Event → Option event_end.End → Type 0

-- nothing comes at each of these events
abbrev pub AllFit : Comes → List Event → Type 0
AllFit comes judged =
    (before later : List Event) (e : Event) → judged ≡ before ++ e ∷ later → comes before e None

-- the stop at the event of this number
abbrev pub stop_at : ℕ → event_end.End → LogStop
stop_at event (event_end.CodesFull variable need) = CodesFull event variable need
stop_at event (event_end.NodesFull subformula row) = NodesFull event subformula row

-- the event behind those judged can't be judged
pub record Halts (comes : Comes) (input : Input) (judged : List Event) (stop : LogStop)
    : Type 0 where
  pub event : Event
  pub later : List Event
  pub why : event_end.End
  pub split : input.events ≡ judged ++ event ∷ later
  pub comes_there : comes judged event (Some why)
  pub told : stop ≡ stop_at (length judged + 1) why

-- each event was judged, and this stops the walk behind the last one
abbrev pub Ends : Input → List Event → LogStop → Type 0
Ends input judged stop = (judged ≡ input.events) × (stop ≡ input.stop)

-- the walk along the input judges these events, and then stops so
pub record Walks (comes : Comes) (input : Input) (judged : List Event) (stop : LogStop)
    : Type 0 where
  pub fits : AllFit comes judged
  pub stops : Ends input judged stop ⊎ Halts comes input judged stop

-- it has judged these events so far
pub record HasWalked (comes : Comes) (input : Input) (judged : List Event) : Type 0 where
  pub fits : AllFit comes judged
  pub later : List Event
  pub split : input.events ≡ judged ++ later
