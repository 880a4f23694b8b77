-- How the use of a file goes: what was asked for, what the files tell of it, and what came of it.
use Rattle.std.specs.Prelude.{◌≡◌, ◌≢◌, ◌≤◌, ◌⊎◌, ⊤, ℕ, Bool, IsTrue, List, [], ◌∷◌, length, map, Option, Some, None, IfSome, IsSomeAnd, Result, Ok, Err}
use Rattle.mon_base.specs.Told.{text_of}
use Rattle.qtl_syntax.specs.Tree.{Text, Item}
use Rattle.qtl_syntax.specs.Faults.{SpellsWithin, IsFault}
use Rattle.qtl_syntax.specs.declared.fault.SpecFault.{SpecFault}
use Rattle.qtl_syntax.specs.declared.fault.SpecFault.TheVariants as spec_fault
use Rattle.qtl_truth.specs.declared.event.Event.{Event}
use Rattle.wellformed.specs.Faults.{first_fault}
use Rattle.wellformed.specs.declared.fault.NameFault.{NameFault}
use Rattle.wellformed.specs.declared.fault.NameFault.TheVariants as name_fault
use Rattle.log_reader.specs.declared.fault.LogFault.{LogFault}
use Rattle.log_reader.specs.declared.fault.LogFault.TheVariants as log_fault
use Rattle.report.specs.Lines.{report_lines}
use Rattle.report.specs.Verdicts.{Verdict, false_count}
use Rattle.run_model.specs.Accepted.{IsTooLong, Accepts}
use Rattle.run_model.specs.Course.{is_spec_fault, is_log_fault}
use Rattle.settings.specs.Asked.{Origin}
use Rattle.run_model.specs.Job.{Job, names_from}
use Rattle.run_model.specs.Ran.{Costs}
use Rattle.run_model.specs.Stage.{Refuses, IsNothing, IsWalking, StandsAtLog, logs_in}
use Rattle.run_model.specs.Uses.{Use, TellUses, left_in, given, AreAsked, AreSomeAsked}
use Rattle.run_model.specs.Verdicts.{properties, names, AreVerdicts}
use Rattle.run_model.specs.Went.{AsksLog, spec_way}
use Rattle.monitor_run.specs.Reading.{IsCounted, LinesPass}
use Rattle.monitor_run.specs.Standing.{HasJudged}
use Rattle.run_model.specs.declared.TheConstants.{MAX_SPEC}
use Rattle.monitor_run.specs.declared.judge.Judge.{Judge}
use Rattle.run_model.specs.declared.stop.Halt.{Halt}
use Rattle.run_model.specs.declared.stop.Halt.TheVariants.{At, Lost}
use Rattle.run_model.specs.declared.stop.LogStop.{LogStop}
use Rattle.run_model.specs.declared.stop.LogStop.TheVariants as log_stop
use Rattle.run_model.specs.declared.stop.Loss.TheVariants.{Cut, Starved}
use Rattle.run_model.specs.declared.stop.SpecStop.{SpecStop}
use Rattle.run_model.specs.declared.stop.SpecStop.TheVariants.{Unopened, Unread, TooLong, Fault, Names}

-- What the files tell

-- what they tell of these uses; where they tell their texts, what each closed source had left too
pub record AreTold (texts : Option (List (Text × Text))) (uses : List Use)
    (opened0 opened1 : Option (List Text)) (hurt0 hurt1 : Option (List Bool))
    (unread0 unread1 : Option (List Text)) : Type 0 where
  pub told : TellUses uses opened0 opened1 hurt0 hurt1 unread0 unread1
  pub left : IfSome texts (λ _. (left : List Text) × (left_in uses ≡ Some left))

-- The specification

-- which uses there were, where its reading gave up so
abbrev pub AsksRefused : Text → Halt SpecStop → List Use → Type 0
AsksRefused name (At stop) uses = AreAsked (record { name = name; way = spec_way stop } ∷ []) uses
AsksRefused name (Lost loss) uses = (loss ≡ Starved) × AreSomeAsked (given name ∷ []) uses

-- and by how it ended
abbrev pub AsksSpec : {T : Type 0} → Text → Result T (Halt SpecStop) → List Use → Type 0
AsksSpec name (Ok text) uses = AreAsked (given name ∷ []) uses
AsksSpec name (Err halt) uses = AsksRefused name halt uses

-- a file's fault only where the files' count rose
abbrev pub HasSpecCause : (files_rose : Type 0) → Halt SpecStop → Type 0
HasSpecCause files_rose (At stop) = IsTrue (is_spec_fault stop) → files_rose
HasSpecCause files_rose (Lost loss) = ⊤

-- the specification of this name is this
abbrev pub SpecIs : List (Text × Text) → Text → Text → Type 0
SpecIs texts name text = (text_of texts name ≡ Some text) × (length text ≤ MAX_SPEC)

-- why it wasn't read: a file's fault, or its length
abbrev pub StopsReading : List (Text × Text) → Text → Halt SpecStop → Type 0
StopsReading texts name (At Unopened) = ⊤
StopsReading texts name (At Unread) = ⊤
StopsReading texts name (At TooLong) = IsTooLong (text_of texts name)
StopsReading texts name (At (Fault fault)) = ⊥
StopsReading texts name (At (Names fault)) = ⊥
StopsReading texts name (Lost loss) = loss ≡ Starved

-- the text spells items that are accepted, and the judge is that of their properties before the
-- first event
pub record IsSpelled (job : Job) (text : Text) (judge : Judge) : Type 0 where
  pub items : List Item
  pub spelled : SpellsWithin text items
  pub clear : first_fault items ≡ None
  pub judged : HasJudged job items [] [] judge

-- it has a fault, or spells items whose names have one, or there was no memory
abbrev pub IsUnspelled : Text → Halt SpecStop → Type 0
IsUnspelled text (At (Fault fault)) = (fault ≢ spec_fault.NoMemory) × IsFault text fault
IsUnspelled text (At (Names fault)) =
    (items : List Item) × SpellsWithin text items × (first_fault items ≡ Some fault)
IsUnspelled text (At Unopened) = ⊥
IsUnspelled text (At Unread) = ⊥
IsUnspelled text (At TooLong) = ⊥
IsUnspelled text (Lost loss) = loss ≡ Starved

-- how a run gives up whose specification, its names or its log have this fault
abbrev pub halt_of_fault : SpecFault → Halt SpecStop
halt_of_fault spec_fault.NoMemory = Lost Starved
halt_of_fault fault = At (Fault fault)

abbrev pub halt_of_names : NameFault → Halt SpecStop
halt_of_names name_fault.NoMemory = Lost Starved
halt_of_names fault = At (Names fault)

abbrev pub halt_of_record : LogFault → Halt LogStop
halt_of_record log_fault.NoMemory = Lost Starved
halt_of_record fault = At (log_stop.Fault fault)

-- the judge of the job's specification
pub record SpecRead (job : Job) (texts : Option (List (Text × Text))) (judge : Judge)
    : Type 0 where
  pub items : List Item
  pub judged : HasJudged job items [] [] judge
  pub accepted : IfSome texts (λ files. Accepts (text_of files job.spec) items)

-- why the specification of this name gave none: a file's fault, or what its bytes decide
abbrev pub SpecRefused : List (Text × Text) → Text → Halt SpecStop → Type 0
SpecRefused texts spec (At stop) =
    IsTrue (is_spec_fault stop) ⊎ ((items : List Item) × Refuses (text_of texts spec) items stop)
SpecRefused texts spec (Lost loss) = loss ≡ Starved

-- The log

-- a file's fault only where the files' count rose
abbrev pub HasLogCause : (files_rose : Type 0) → Halt LogStop → Type 0
HasLogCause files_rose (At stop) = IsTrue (is_log_fault stop) → files_rose
HasLogCause files_rose (Lost loss) = ⊤

-- which uses there were, by how its reading gave up: none of a sample, which has no file's fault
abbrev pub AsksTo : Origin → Halt LogStop → List Use → Type 0
AsksTo origin (At stop) uses = AsksLog origin stop uses
AsksTo origin (Lost Cut) uses = AreAsked (map given (names_from origin)) uses
AsksTo origin (Lost Starved) uses = AreSomeAsked (map given (names_from origin)) uses

-- how far it came by the bytes of the logs, where each of them is there
abbrev pub StandsTo : Job → List Item → Option (List Text) → List Use → List Event → (handed : ℕ) →
    Halt LogStop → Type 0
StandsTo job items alls uses judged handed (At stop) =
    StandsAtLog job items alls uses judged handed stop
StandsTo job items alls uses judged handed (Lost Cut) =
    IsSomeAnd alls (λ a. IsWalking job items a uses judged handed)
StandsTo job items alls uses judged handed (Lost Starved) =
    ((uses ≡ []) × IsNothing judged handed)
    ⊎ IsSomeAnd alls (λ a. IsWalking job items a uses judged handed)

-- How the reading of a run's log gave up: how far it came, what was judged and counted, and what
-- was written or is held back
pub record LogHalted (job : Job) (texts : List (Text × Text)) (items : List Item) (uses : List Use)
    (sent0 sent1 : Option Text) (held : Text) (judge : Judge) (before after : ℕ)
    (halt : Halt LogStop) : Type 0 where
  pub judged : List Event
  pub rows : List (List Verdict)
  pub handed : ℕ
  pub stands : StandsTo job items (logs_in job texts items) uses judged handed halt
  pub right : AreVerdicts judged items rows
  pub counted : IsCounted halt judge (length judged) (false_count rows)
  pub lines : LinesPass halt sent0 sent1 held (report_lines job.all 1 (names (properties items)) rows)
  pub cost : Costs (Some job) items handed before after
  -- what the source had left is told
  pub left : List Text
  pub left_is : left_in uses ≡ Some left
