-- What a run does: the statement of the top call.
use Rattle.std.specs.Prelude.{◌≡◌, ◌⊎◌, ⊤, ℕ, ◌+◌, ◌*◌, ◌≤◌, IsTrue, List, length, Bool, false, Option, Some, None, IfSome}
use Rattle.std.specs.Io.KnownBytes.{Appends}
use Rattle.mon_base.specs.Causes.{Rose}
use Rattle.qtl_syntax.specs.Tree.{Text, Item}
use Rattle.qtl_truth.specs.declared.event.Event.{Event}
use Rattle.report.specs.Verdicts.{Verdict, false_count}
use Rattle.run_model.specs.declared.end.End.{End}
use Rattle.run_model.specs.declared.end.End.TheVariants.{NoMemory}
use Rattle.run_model.specs.Course.{end_of, stop_in, is_fault}
use Rattle.run_model.specs.Job.{Job}
use Rattle.run_model.specs.Limits.{IsAmple, event_bound}
use Rattle.run_model.specs.Lines.{text_of_run, IsSentOf}
use Rattle.run_model.specs.Stage.{Stands, IsDue}
use Rattle.run_model.specs.Uses.{TellUses, left_in}
use Rattle.run_model.specs.Verdicts.{AreVerdicts}
use Rattle.run_model.specs.Went.{Moment, Went, uses_of, Asks, HasFileCause, HasWriteCause}
use Rattle.run_model.specs.declared.stop.Stop.{Stop}
use Rattle.run_model.specs.declared.stop.Course.{Course}
use Rattle.run_model.specs.declared.stop.Course.TheVariants.{Came}

-- so many events were handed to the monitor, each for a bounded number of steps where the cache is
-- ample
abbrev pub Costs : Option Job → List Item → (handed before after : ℕ) → Type 0
Costs None items handed before after = after ≡ before
Costs (Some job) items handed before after =
    (handed ≡ 0 → after ≡ before)
    × (IsAmple job → after ≤ before + event_bound job items * handed)

-- whether true verdicts are written too
abbrev pub is_all : Option Job → Bool
is_all None = false
is_all (Some job) = job.all

-- What a run judged and wrote, where the files tell their texts
pub record Reports (job : Option Job) (texts : List (Text × Text)) (went : Went)
    (before after : Moment) : Type 0 where
  pub items : List Item
  pub judged : List Event
  pub rows : List (List Verdict)
  pub stands : Stands job texts items went.logs judged went.handed went.course
  pub right : AreVerdicts judged items rows
  pub events : went.events ≡ length judged
  pub violations : went.violations ≡ false_count rows
  -- what each closed source had left is told too
  pub left : List Text
  pub left_is : left_in (uses_of went) ≡ Some left
  -- what was written
  pub sent : Text
  pub written : Appends before.written after.written sent
  pub whole : IsSentOf went.course sent
      (text_of_run (is_all job) items rows went.events went.violations (stop_in went.course))
  pub cost : Costs job items went.handed before.steps after.steps

-- The stop that is due is the one that a run came to, but where a file's fault came before
abbrev pub Heeds : Option Stop → (due : Stop) → Type 0
Heeds None due = ⊤
Heeds (Some stop) due = (stop ≡ due) ⊎ IsTrue (is_fault stop)

-- it came to a stop that is no file's fault, and its text was written whole
abbrev pub IsWholeRun : Course → Type 0
IsWholeRun course = (stop : Stop) × (course ≡ Came stop) × (is_fault stop ≡ false)

-- A run, from its words to its end. `went` says how it went: all else is said of that.
pub record Ran (job : Option Job) (before after : Moment) (end : End) : Type 0 where
  pub went : Went
  -- the end that it answers
  pub end_is : end ≡ end_of went.violations went.course
  -- the files that it asked for, in their order, and what came of each
  pub asks : Asks job went.course went.early went.logs
  -- what the files tell of that
  pub told : TellUses (uses_of went) before.opened after.opened
      before.hurt after.hurt before.unread after.unread
  pub closed : after.lent ≡ before.lent
  -- a fault is answered only where its count rose
  pub file_cause : HasFileCause (stop_in went.course) (Rose before.file_faults after.file_faults)
  pub write_cause : HasWriteCause went.course (Rose before.out_faults after.out_faults)
  pub later : before.file_faults ≤ after.file_faults
  pub out_later : before.out_faults ≤ after.out_faults
  -- and where none was counted and there was memory, the run came to a stop, and all was written
  pub whole : ¬ Rose before.file_faults after.file_faults →
      ¬ Rose before.out_faults after.out_faults → IsWholeRun went.course ⊎ (end ≡ NoMemory)
  -- what it judged and wrote: the report of each property's truth at each event, up to one stop
  pub report : IfSome before.texts (λ texts. Reports job texts went before after)
  -- what the words and the bytes decide comes, but where a file's fault came before
  pub exact : IfSome before.texts (λ texts. (due : Stop) → IsDue job texts due →
      Heeds (stop_in went.course) due)
  -- so it comes whole where no fault was counted and there was memory
  pub complete : IfSome before.texts (λ texts. (due : Stop) → IsDue job texts due →
      ¬ Rose before.file_faults after.file_faults → ¬ Rose before.out_faults after.out_faults →
      (went.course ≡ Came due) ⊎ (end ≡ NoMemory))
