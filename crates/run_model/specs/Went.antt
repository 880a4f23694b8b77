-- How a run went: one record, of which every clause of the top call speaks.
use Rattle.std.specs.Prelude.{◌≡◌, ◌⊎◌, ⊤, ℕ, Bool, IsTrue, false, List, [], ◌∷◌, ◌++◌, map, Option, Some, None}
use Rattle.qtl_syntax.specs.Tree.{Text}
use Rattle.settings.specs.Asked.{Origin, FromFile, FromSample}
use Rattle.run_model.specs.Course.{is_fault, is_log_fault}
use Rattle.run_model.specs.Job.{Job, log_names}
use Rattle.run_model.specs.Uses.{Use, Ask, Way, Refused, Failed, Given, given, AreAsked, AreSomeAsked}
use Rattle.run_model.specs.declared.stop.SpecStop.{SpecStop}
use Rattle.run_model.specs.declared.stop.SpecStop.TheVariants as spec_stop
use Rattle.run_model.specs.declared.stop.LogStop.{LogStop}
use Rattle.run_model.specs.declared.stop.LogStop.TheVariants as log_stop
use Rattle.run_model.specs.declared.stop.Stop.{Stop}
use Rattle.run_model.specs.declared.stop.Stop.TheVariants.{Misused, Spec, Log}
use Rattle.run_model.specs.declared.stop.Loss.{Loss}
use Rattle.run_model.specs.declared.stop.Loss.TheVariants.{Cut, Starved}
use Rattle.run_model.specs.declared.stop.Course.{Course}
use Rattle.run_model.specs.declared.stop.Course.TheVariants.{Came, Lost}

-- what the files, the output and the counter of steps mean at a moment
pub record Moment : Type 0 where
  pub texts : Option (List (Text × Text))
  pub opened : Option (List Text)
  pub unread : Option (List Text)
  pub hurt : Option (List Bool)
  pub lent : ℕ
  pub file_faults : ℕ
  pub written : Option Text
  pub out_faults : ℕ
  pub steps : ℕ

pub record Went : Type 0 where
  pub early : List Use  -- what was asked for before the log
  pub logs : List Use  -- the log, once it was asked for
  pub course : Course
  pub events : ℕ  -- how many were judged
  pub violations : ℕ  -- and how many of their verdicts were false
  pub handed : ℕ  -- how many the monitor was handed

abbrev pub uses_of : Went → List Use
uses_of went = went.early ++ went.logs

-- Which files are asked for

abbrev pub spec_way : SpecStop → Way
spec_way spec_stop.Unopened = Refused
spec_way spec_stop.Unread = Failed
spec_way _ = Given

abbrev pub log_way : LogStop → Way
log_way log_stop.Unopened = Refused
log_way log_stop.Unread = Failed
log_way _ = Given

-- before the log, where a run stops so
abbrev pub early_asks : Job → Stop → List Ask
early_asks job Misused = []
early_asks job (Spec stop) = record { name = job.spec; way = spec_way stop } ∷ []
early_asks job (Log stop) = given job.spec ∷ []

-- as the log, which ended so: a sample is no file, and has no file's fault
abbrev pub AsksLog : Origin → LogStop → (logs : List Use) → Type 0
AsksLog (FromFile name) stop logs = AreAsked (record { name = name; way = log_way stop } ∷ []) logs
AsksLog (FromSample seed events) stop logs = (logs ≡ []) × (is_log_fault stop ≡ false)

abbrev pub AsksLogs : Job → Stop → (logs : List Use) → Type 0
AsksLogs job (Log stop) logs = AsksLog job.log stop logs
AsksLogs job _ logs = logs ≡ []

-- At a stop. A wrong use asks for no file, and is the only stop of words that are none.
abbrev pub AsksAt : Option Job → Stop → (early logs : List Use) → Type 0
AsksAt None Misused early logs = (early ≡ []) × (logs ≡ [])
AsksAt None _ early logs = ⊥
AsksAt (Some job) Misused early logs = ⊥
AsksAt (Some job) stop early logs =
    AreAsked (early_asks job stop) early × AsksLogs job stop logs

-- the logs are given
abbrev pub given_logs : Job → List Ask
given_logs job = map given (log_names job)

-- Without a stop: where there was no memory the specification was asked for, or not even that, or
-- the log too; a write fails on the way only where both were given.
abbrev pub AsksOnTheWay : Option Job → Loss → (early logs : List Use) → Type 0
AsksOnTheWay None Starved early logs = (early ≡ []) × (logs ≡ [])
AsksOnTheWay None Cut early logs = ⊥
AsksOnTheWay (Some job) Starved early logs =
    (AreSomeAsked (given job.spec ∷ []) early × (logs ≡ []))
    ⊎ (AreAsked (given job.spec ∷ []) early × AreSomeAsked (given_logs job) logs)
AsksOnTheWay (Some job) Cut early logs =
    AreAsked (given job.spec ∷ []) early × AreAsked (given_logs job) logs

-- Which files were asked for, in which order, and what came of each, by the words and the course
abbrev pub Asks : Option Job → Course → (early logs : List Use) → Type 0
Asks job (Came stop) early logs = AsksAt job stop early logs
Asks job (Lost loss (Some stop)) early logs = AsksAt job stop early logs
Asks job (Lost loss None) early logs = AsksOnTheWay job loss early logs

-- Why a fault is answered

-- a fault of a file stops a run only where the files' count rose
abbrev pub HasFileCause : Option Stop → (files_rose : Type 0) → Type 0
HasFileCause None files_rose = ⊤
HasFileCause (Some stop) files_rose = IsTrue (is_fault stop) → files_rose

-- a text is cut only where the output's count rose
abbrev pub HasWriteCause : Course → (out_rose : Type 0) → Type 0
HasWriteCause (Came stop) out_rose = ⊤
HasWriteCause (Lost Cut stop) out_rose = out_rose
HasWriteCause (Lost Starved stop) out_rose = ⊤
