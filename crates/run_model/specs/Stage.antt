-- What the bytes of the files say of where a run stops, and of the events that it judges.
use Rattle.std.specs.Prelude.{◌≡◌, ◌⊎◌, ⊤, ℕ, ◌+◌, ◌≤◌, IsTrue, List, [], ◌∷◌, map, length, Option, Some, None, IsSomeAnd}
use Rattle.mon_base.specs.Told.{text_of}
use Rattle.qtl_syntax.specs.Tree.{Text, Item}
use Rattle.qtl_truth.specs.declared.event.Event.{Event}
use Rattle.wellformed.specs.Faults.{first_fault}
use Rattle.settings.specs.Asked.{Origin, FromFile, FromSample}
use Rattle.sample_log.specs.Sample.{sample}
use Rattle.run_model.specs.Accepted.{IsTooLong, HasFault, Spells, Accepts}
use Rattle.run_model.specs.Course.{is_spec_fault}
use Rattle.run_model.specs.Job.{Job}
use Rattle.run_model.specs.Limits.{ComesAt}
use Rattle.run_model.specs.Uses.{Fate, NotGiven, Closed, Use, told_first}
use Rattle.run_model.specs.Verdicts.{is_timed}
use Rattle.run_model.specs.Walk.{Form, Input, Taken, Takes, Comes, Walks, HasWalked, known, input_of, join}
use Rattle.run_model.specs.declared.stop.SpecStop.{SpecStop}
use Rattle.run_model.specs.declared.stop.SpecStop.TheVariants as spec_stop
use Rattle.run_model.specs.declared.stop.LogStop.{LogStop}
use Rattle.run_model.specs.declared.stop.LogStop.TheVariants as log_stop
use Rattle.run_model.specs.declared.stop.Stop.{Stop}
use Rattle.run_model.specs.declared.stop.Stop.TheVariants.{Misused, Spec, Log}
use Rattle.run_model.specs.declared.stop.Loss.{Loss}
use Rattle.run_model.specs.declared.stop.Loss.TheVariants.{Cut, Starved}
use Rattle.run_model.specs.declared.stop.Course.{Course}
use Rattle.run_model.specs.declared.stop.Course.TheVariants.{Came, Lost}

-- The specification

-- it is refused so, which its bytes decide; the items are those that it spells, where it spells
-- some
abbrev pub Refuses : (spec : Option Text) → List Item → SpecStop → Type 0
Refuses spec items spec_stop.Unopened = ⊥
Refuses spec items spec_stop.Unread = ⊥
Refuses spec items spec_stop.TooLong = IsTooLong spec
Refuses spec items (spec_stop.Fault fault) = HasFault spec fault
Refuses spec items (spec_stop.Names fault) = Spells spec items × (first_fault items ≡ Some fault)

-- The log

-- how the records of a run's log are read
abbrev pub form_of : Job → List Item → Form
form_of job items = record { timed = is_timed items }

-- what comes at an event of it
abbrev pub comes_in : Job → List Item → Comes
comes_in job items = ComesAt job items

-- the bytes of these files, where each of them is there
abbrev pub texts_in : List (Text × Text) → List Text → Option (List Text)
texts_in texts [] = Some []
texts_in texts (name ∷ names) = told_first (text_of texts name) (texts_in texts names)

-- the bytes of the run's logs: of the file, where it is there, or of the sample, which has times
-- where the specification asks for them
abbrev pub logs_from : Origin → List (Text × Text) → List Item → Option (List Text)
logs_from (FromFile name) texts items = texts_in texts (name ∷ [])
logs_from (FromSample seed events) texts items =
    Some (sample seed events (is_timed items) ∷ [])

abbrev pub logs_in : Job → List (Text × Text) → List Item → Option (List Text)
logs_in job texts items = logs_from job.log texts items

-- what is known of logs of which this was taken, and what they are
abbrev pub known_of : Job → List Item → List Taken → Input
known_of job items taken = join (map (λ t. known (form_of job items) job.limit t) taken)

abbrev pub whole_in : Job → List Item → List Text → Input
whole_in job items alls = join (map (λ all. input_of (form_of job items) job.limit all) alls)

-- this was taken of a log by the use of its file
abbrev pub CameTakes : (limit : ℕ) → Text → Fate → Taken → Type 0
CameTakes limit all (Closed hurt (Some left)) taken = Takes limit all left taken
CameTakes limit all (Closed hurt None) taken = ⊥
CameTakes limit all NotGiven taken = ⊥

abbrev pub FilesTake : (limit : ℕ) → List Text → List Use → List Taken → Type 0
FilesTake limit [] [] [] = ⊤
FilesTake limit (all ∷ alls) (u ∷ uses) (t ∷ taken) =
    CameTakes limit all u.came t × FilesTake limit alls uses taken
FilesTake limit _ _ _ = ⊥

-- and of a sample
abbrev pub SampleTakes : (limit : ℕ) → List Text → List Taken → Type 0
SampleTakes limit (all ∷ []) (t ∷ []) = (left : Text) × Takes limit all left t
SampleTakes limit _ _ = ⊥

abbrev pub TakesFrom : Origin → (limit : ℕ) → List Text → List Use → List Taken → Type 0
TakesFrom (FromFile name) limit alls uses taken = FilesTake limit alls uses taken
TakesFrom (FromSample seed events) limit alls uses taken = SampleTakes limit alls taken

abbrev pub LogsTake : Job → List Text → List Use → List Taken → Type 0
LogsTake job alls uses taken = TakesFrom job.log job.limit alls uses taken

-- what a stop is said of: of what was taken, where a read failed, else of the whole log
abbrev pub said_of : LogStop → (taken whole : Input) → Input
said_of log_stop.Unread taken whole = taken
said_of _ taken whole = whole

abbrev pub said_in : Job → List Item → List Taken → List Text → LogStop → Input
said_in job items taken alls stop =
    said_of stop (known_of job items taken) (whole_in job items alls)

-- how many events the monitor is handed until a walk stops so that has judged so many: the one that
-- can't be judged too
abbrev pub handed_by : LogStop → (judged : ℕ) → ℕ
handed_by (log_stop.CodesFull event variable need) judged = judged + 1
handed_by (log_stop.NodesFull event subformula row) judged = judged + 1
handed_by _ judged = judged

-- the walk along the log judges these events, and then stops so
pub record Walked (job : Job) (items : List Item) (alls : List Text) (logs : List Use)
    (judged : List Event) (handed : ℕ) (stop : LogStop) : Type 0 where
  pub taken : List Taken
  pub takes : LogsTake job alls logs taken
  pub walks : Walks (comes_in job items) (said_in job items taken alls stop) judged stop
  pub handed_is : handed ≡ handed_by stop (length judged)

-- it has judged these events so far, of what was taken
pub record IsWalking (job : Job) (items : List Item) (alls : List Text) (logs : List Use)
    (judged : List Event) (handed : ℕ) : Type 0 where
  pub taken : List Taken
  pub takes : LogsTake job alls logs taken
  pub walked : HasWalked (comes_in job items) (known_of job items taken) judged
  pub few : handed ≤ length judged + 1
  pub within : handed ≤ length (known_of job items taken).events

-- Both

-- nothing was judged, nor handed to a monitor
abbrev pub IsNothing : List Event → (handed : ℕ) → Type 0
IsNothing judged handed = (judged ≡ []) × (handed ≡ 0)

abbrev pub StandsAtLog : Job → List Item → Option (List Text) → List Use → List Event →
    (handed : ℕ) → LogStop → Type 0
StandsAtLog job items alls logs judged handed log_stop.Unopened = IsNothing judged handed
StandsAtLog job items alls logs judged handed stop =
    IsSomeAnd alls (λ a. Walked job items a logs judged handed stop)

-- the bytes of the files lead a run to this stop
abbrev pub StandsAt : Option Job → List (Text × Text) → List Item → (logs : List Use) →
    (judged : List Event) → (handed : ℕ) → Stop → Type 0
StandsAt None texts items logs judged handed stop = IsNothing judged handed
StandsAt (Some job) texts items logs judged handed Misused = ⊥
StandsAt (Some job) texts items logs judged handed (Spec stop) =
    IsNothing judged handed
    × (IsTrue (is_spec_fault stop) ⊎ Refuses (text_of texts job.spec) items stop)
StandsAt (Some job) texts items logs judged handed (Log stop) =
    Accepts (text_of texts job.spec) items
    × StandsAtLog job items (logs_in job texts items) logs judged handed stop

-- it is on its way along the log of an accepted specification
abbrev pub StandsAlong : Job → List (Text × Text) → List Item → (logs : List Use) →
    (judged : List Event) → (handed : ℕ) → Type 0
StandsAlong job texts items logs judged handed =
    Accepts (text_of texts job.spec) items
    × IsSomeAnd (logs_in job texts items) (λ a. IsWalking job items a logs judged handed)

-- without a stop: before the log, for want of memory alone, or along it
abbrev pub StandsOnTheWay : Option Job → List (Text × Text) → List Item → (logs : List Use) →
    (judged : List Event) → (handed : ℕ) → Loss → Type 0
StandsOnTheWay None texts items logs judged handed loss = IsNothing judged handed
StandsOnTheWay (Some job) texts items logs judged handed Starved =
    ((logs ≡ []) × IsNothing judged handed) ⊎ StandsAlong job texts items logs judged handed
StandsOnTheWay (Some job) texts items logs judged handed Cut =
    StandsAlong job texts items logs judged handed

-- where the bytes of the files lead a run
abbrev pub Stands : Option Job → List (Text × Text) → List Item → (logs : List Use) →
    (judged : List Event) → (handed : ℕ) → Course → Type 0
Stands job texts items logs judged handed (Came stop) =
    StandsAt job texts items logs judged handed stop
Stands job texts items logs judged handed (Lost loss (Some stop)) =
    StandsAt job texts items logs judged handed stop
Stands job texts items logs judged handed (Lost loss None) =
    StandsOnTheWay job texts items logs judged handed loss

-- What is due

-- the walk along the whole log stops so
abbrev pub IsWalkOf : Job → List Item → LogStop → List Text → Type 0
IsWalkOf job items stop alls =
    (judged : List Event) × Walks (comes_in job items) (whole_in job items alls) judged stop

-- the words and the bytes of the files decide this stop, of which no file's fault is one
abbrev pub IsDue : Option Job → List (Text × Text) → Stop → Type 0
IsDue None texts Misused = ⊤
IsDue None texts stop = ⊥
IsDue (Some job) texts Misused = ⊥
IsDue (Some job) texts (Spec stop) =
    (items : List Item) × Refuses (text_of texts job.spec) items stop
IsDue (Some job) texts (Log stop) =
    (items : List Item) × Accepts (text_of texts job.spec) items
    × IsSomeAnd (logs_in job texts items) (IsWalkOf job items stop)
