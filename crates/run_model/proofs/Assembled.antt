-- What a run owes: the other sentences of the statement follow.
use Rattle.std.proofs.Common.{◌≡◌, ◌≤◌, ◌⊎◌, List}
use Rattle.std.specs.Prelude.{Option, Some, None, IfSome, length}
use Rattle.mon_base.specs.Causes.{Rose}
use Rattle.qtl_syntax.specs.Tree.{Text}
use Rattle.run_model.specs.declared.end.End.{End}
use Rattle.run_model.specs.declared.end.End.TheVariants.{NoMemory}
use Rattle.run_model.specs.Course.{end_of, stop_in}
use Rattle.run_model.specs.Job.{Job}
use Rattle.run_model.specs.Ran.{Ran, Reports, Heeds, IsWholeRun}
use Rattle.run_model.specs.Stage.{IsDue}
use Rattle.run_model.specs.Uses.{TellUses}
use Rattle.run_model.specs.Went.{Moment, Went, uses_of, Asks, HasFileCause, HasWriteCause}
use Rattle.run_model.specs.declared.stop.Stop.{Stop}
use Rattle.run_model.specs.declared.stop.Course.{Course}
use Rattle.run_model.specs.declared.stop.Course.TheVariants.{Came}
use Rattle.run_model.proofs.OneStop.{Laws, exact, whole_run, complete}
use Rattle.qtl_syntax.specs.Faults.{OneFault, FaultsSpellNothing, OneSpelled}
use Rattle.monitor_model.proofs.Ends.OneEnd.{one_end}
use Rattle.run_model.specs.Limits.{setting_in}
use Rattle.run_model.proofs.AcceptedPlans.{accepted_plan}

-- what the layers below promise of one answer: the laws that exactness rests on
pub laws_of : OneFault → FaultsSpellNothing → OneSpelled → Laws
laws_of one_fault never_both one_specification =
    record {
      one_fault = one_fault;
      never_both = never_both;
      one_specification = one_specification;
      one_comes = λ job spec items accepted log e a b p q. one_end (setting_in job items) log (length log) e (accepted_plan job spec items accepted) a b p q;
    }

heeds_told : Laws → (job : Option Job) (went : Went) (before after : Moment) (told : Option (List (Text × Text))) → Asks job went.course went.early went.logs → IfSome told (λ texts. Reports job texts went before after) →
    IfSome told (λ texts. (due : Stop) → IsDue job texts due → Heeds (stop_in went.course) due)
heeds_told laws job went before after (Some texts) asks r = λ due d. exact laws job texts r.items went.early went.logs r.judged went.handed went.course asks r.stands due d
heeds_told laws job went before after None asks r = tt

complete_told : (job : Option Job) (course : Course) (end : End) (files_rose out_rose : Type 0) (told : Option (List (Text × Text))) → (¬ files_rose → ¬ out_rose → IsWholeRun course ⊎ (end ≡ NoMemory)) →
    IfSome told (λ texts. (due : Stop) → IsDue job texts due → Heeds (stop_in course) due) →
    IfSome told (λ texts. (due : Stop) → IsDue job texts due → ¬ files_rose → ¬ out_rose → (course ≡ Came due) ⊎ (end ≡ NoMemory))
complete_told job course end files_rose out_rose (Some texts) whole heeds = λ due d no_file no_write. complete course end due (whole no_file no_write) (heeds due d)
complete_told job course end files_rose out_rose None whole heeds = tt

pub assembled : Laws → (job : Option Job) (before after : Moment) (end : End) (went : Went) → end ≡ end_of went.violations went.course → Asks job went.course went.early went.logs →
    TellUses (uses_of went) before.opened after.opened before.hurt after.hurt before.unread after.unread → after.lent ≡ before.lent →
    HasFileCause (stop_in went.course) (Rose before.file_faults after.file_faults) → HasWriteCause went.course (Rose before.out_faults after.out_faults) →
    before.file_faults ≤ after.file_faults → before.out_faults ≤ after.out_faults → IfSome before.texts (λ texts. Reports job texts went before after) → Ran job before after end
assembled laws job before after end went is asks told closed file write later out_later report =
    let whole = whole_run (Rose before.file_faults after.file_faults) (Rose before.out_faults after.out_faults) went.course went.violations end file write is in
    let heeds = heeds_told laws job went before after before.texts asks report in
    record {
      went = went;
      end_is = is;
      asks = asks;
      told = told;
      closed = closed;
      file_cause = file;
      write_cause = write;
      later = later;
      out_later = out_later;
      whole = whole;
      report = report;
      exact = heeds;
      complete = complete_told job went.course end (Rose before.file_faults after.file_faults) (Rose before.out_faults after.out_faults) before.texts whole heeds;
    }
