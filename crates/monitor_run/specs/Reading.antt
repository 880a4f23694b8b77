-- How far a log was read: the bytes that were taken of it, the judge, and the output, one beside
-- the other; and how the reading gives up.
use Rattle.std.specs.Prelude.{◌≡◌, ◌≢◌, ⊤, ℕ, ◌+◌, ◌≤◌, List, [], ◌++◌, length, Bool, true, false, Option, Some}
use Rattle.std.specs.Io.KnownBytes.{Appends, Consumes}
use Rattle.mon_base.specs.Told.{AppendsFront}
use Rattle.qtl_syntax.specs.Tree.{Text, Item}
use Rattle.qtl_truth.specs.Truth.{time_at}
use Rattle.qtl_truth.specs.declared.event.Event.{Event}
use Rattle.log_reader.specs.Records.{Rest, cut}
use Rattle.log_reader.specs.Standing.{Reading, Stands}
use Rattle.report.specs.Lines.{report_lines}
use Rattle.report.specs.Passing.{Passes}
use Rattle.report.specs.Verdicts.{Verdict, false_count}
use Rattle.run_model.specs.Limits.{ComesAt}
use Rattle.run_model.specs.Stage.{handed_by}
use Rattle.run_model.specs.Verdicts.{properties, names, is_timed, AreVerdicts}
use Rattle.run_model.specs.Walk.{Form, Input, Close, Open, Ended, Taken, Takes, Comes, Walks, HasWalked, known}
use Rattle.monitor_run.specs.Standing.{HasJudged}
use Rattle.monitor_run.specs.declared.judge.Judge.{Judge}
use Rattle.run_model.specs.Job.{Job}
use Rattle.run_model.specs.declared.stop.Halt.{Halt}
use Rattle.run_model.specs.declared.stop.Halt.TheVariants.{At, Lost}
use Rattle.run_model.specs.declared.stop.LogStop.{LogStop}
use Rattle.run_model.specs.declared.stop.LogStop.TheVariants.{Unopened, Unread}
use Rattle.run_model.specs.declared.stop.Loss.TheVariants.{Cut, Starved}

-- The bytes

-- of the records of these bytes, which were fed to the reader and are read with times or without,
-- these events were given
pub record Fed (timed : Bool) (bytes : Text) (ended : Bool) (log : List Event) (r : Reading)
    : Type 0 where
  pub stands : Stands bytes r
  pub times : r.timed ≡ timed
  pub closed : r.ended ≡ ended
  pub count : r.given ≡ length log
  pub later : List Event
  pub first : (cut bytes timed ended).events ≡ log ++ later

-- so many bytes were fed to the reader, and this is the time of the event that it gave last; 0
-- where it gave none
pub record IsFed (count : ℕ) (r : Reading) (last : ℕ) : Type 0 where
  pub timed : Bool
  pub bytes : Text
  pub ended : Bool
  pub log : List Event
  pub fed : Fed timed bytes ended log r
  pub size : length bytes ≡ count
  pub time : time_at log (length log) ≡ last

-- the same, and they are not more than these
pub record IsFedWithin (most : ℕ) (r : Reading) (last : ℕ) : Type 0 where
  pub count : ℕ
  pub fed : IsFed count r last
  pub few : count ≤ most

-- how far a log was taken whose source gives more, or none
abbrev pub close_of : (ended : Bool) → Close
close_of true = Ended
close_of false = Open

abbrev pub taken_as : (given : Text) → (ended : Bool) → Taken
taken_as given ended = record { given = given; close = close_of ended }

-- these bytes were taken of a log, and these events of them were given
pub record IsTaken (limit : ℕ) (timed : Bool) (all : Text) (left : Option Text) (given : Text)
    (ended : Bool) (log : List Event) (r : Reading) : Type 0 where
  pub rest : Text
  pub remains : left ≡ Some rest
  pub takes : Takes limit all rest (taken_as given ended)
  pub fed : Fed timed given ended log r

-- All three

-- of the bytes that were taken some events were judged, and the violations of these were written or
-- are held back
pub record Reads (job : Job) (items : List Item) (all : Text) (left sent0 sent1 : Option Text)
    (given : Text) (ended : Bool) (judge : Judge) (r : Reading) (held : Text) : Type 0 where
  pub log : List Event
  pub rows : List (List Verdict)
  pub bytes : IsTaken job.limit (is_timed items) all left given ended log r
  pub judged : HasJudged job items log rows judge
  pub lines : Passes sent0 sent1 [] held (report_lines job.all 1 (names (properties items)) rows)

-- the records of the bytes, read with times or without, are these events, and no fault
abbrev pub AreAll : Bool → Text → Bool → List Event → Type 0
AreAll timed given ended log = cut given timed ended ≡ record { events = log; end = Rest }

-- all events of the bytes were judged
pub record ReadsAll (job : Job) (items : List Item) (all : Text)
    (left sent0 sent1 : Option Text) (given : Text) (ended : Bool) (judge : Judge) (r : Reading)
    (held : Text) : Type 0 where
  pub reads : Reads job items all left sent0 sent1 given ended judge r held
  pub done : AreAll (is_timed items) given ended reads.log

-- Giving up

abbrev pub form_in : List Item → Form
form_in items = record { timed = is_timed items }

-- how far the walk along the log came
abbrev pub WalksTo : Comes → Input → List Event → Halt LogStop → Type 0
WalksTo comes input judged (At stop) = Walks comes input judged stop
WalksTo comes input judged (Lost loss) = HasWalked comes input judged

-- how many events the monitor was handed, of those that are known
abbrev pub IsHanded : Halt LogStop → (judged handed known : ℕ) → Type 0
IsHanded (At stop) judged handed known = handed ≡ handed_by stop judged
IsHanded (Lost loss) judged handed known = (handed ≤ judged + 1) × (handed ≤ known)

-- at a stop the judge has counted the events and their violations
abbrev pub IsCounted : Halt LogStop → Judge → (events violations : ℕ) → Type 0
IsCounted (At stop) judge events violations =
    (judge.events ≡ events) × (judge.violations ≡ violations)
IsCounted (Lost loss) judge events violations = ⊤

-- what was written of these lines, and what of them is held back
abbrev pub LinesPass : {S : Type 0} → Halt S → (old new : Option Text) → (held lines : Text) →
    Type 0
LinesPass (At stop) old new held lines = Passes old new [] held lines
LinesPass (Lost Cut) old new held lines = AppendsFront old new lines
LinesPass (Lost Starved) old new held lines = Passes old new [] held lines

-- How the reading of a log gave up: what was taken of it, which events were judged, how many the
-- monitor was handed, and what was written of them or is held back
pub record Halted (job : Job) (items : List Item) (all : Text)
    (left sent0 sent1 : Option Text) (held : Text) (judge : Judge) (handed : ℕ)
    (halt : Halt LogStop) : Type 0 where
  pub rest : Text
  pub remains : left ≡ Some rest
  pub taken : Taken
  pub takes : Takes job.limit all rest taken
  pub judged : List Event
  pub rows : List (List Verdict)
  pub walks : WalksTo (ComesAt job items) (known (form_in items) job.limit taken) judged halt
  pub handed_is : IsHanded halt (length judged) handed
      (length (known (form_in items) job.limit taken).events)
  pub right : AreVerdicts judged items rows
  pub counted : IsCounted halt judge (length judged) (false_count rows)
  pub lines : LinesPass halt sent0 sent1 held (report_lines job.all 1 (names (properties items)) rows)

-- a write failed only where the output's count rose
abbrev pub HasCutCause : {S : Type 0} → (out_rose : Type 0) → Halt S → Type 0
HasCutCause out_rose (Lost Cut) = out_rose
HasCutCause out_rose (Lost Starved) = ⊤
HasCutCause out_rose (At stop) = ⊤

-- and a read only where the source's count did; a log that is read was opened
abbrev pub HasReadCause : (source_rose : Type 0) → Halt LogStop → Type 0
HasReadCause source_rose (At stop) = (stop ≢ Unopened) × (stop ≡ Unread → source_rose)
HasReadCause source_rose (Lost loss) = ⊤

-- A read that came to no pass: it failed behind a flush, or what was held back could not be written
abbrev pub IsUnread : (left0 left1 sent0 sent1 : Option Text) → (held0 held1 : Text) →
    Halt LogStop → Type 0
IsUnread left0 left1 sent0 sent1 held0 held1 (At stop) =
    (stop ≡ Unread) × Consumes left0 left1 [] × Appends sent0 sent1 held0 × (held1 ≡ [])
IsUnread left0 left1 sent0 sent1 held0 held1 (Lost Cut) =
    (left1 ≡ left0) × AppendsFront sent0 sent1 held0
IsUnread left0 left1 sent0 sent1 held0 held1 (Lost Starved) = ⊥
