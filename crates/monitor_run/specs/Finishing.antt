-- What the last step of a run makes of how a part of it gave up.
use Rattle.std.specs.Prelude.{◌≡◌, ⊤, [], ◌++◌, Option, Some, None, IfSome}
use Rattle.std.specs.Io.KnownBytes.{Appends}
use Rattle.mon_base.specs.Causes.{Rose}
use Rattle.mon_base.specs.Told.{AppendsFront}
use Rattle.qtl_syntax.specs.Tree.{Text}
use Rattle.run_model.specs.Course.{end_of, stop_in}
use Rattle.run_model.specs.Job.{Job}
use Rattle.run_model.specs.Ran.{Reports}
use Rattle.run_model.specs.Uses.{TellUses}
use Rattle.run_model.specs.Went.{Moment, Went, uses_of, Asks, HasFileCause, HasWriteCause}
use Rattle.run_model.specs.declared.stop.Halt.{Halt}
use Rattle.run_model.specs.declared.stop.Halt.TheVariants as halt
use Rattle.run_model.specs.declared.stop.Stop.{Stop}
use Rattle.run_model.specs.declared.stop.Loss.TheVariants.{Cut, Starved}
use Rattle.run_model.specs.declared.stop.Course.{Course}
use Rattle.run_model.specs.declared.stop.Course.TheVariants.{Came, Lost}
use Rattle.monitor_run.specs.declared.last.Finished.{Finished}

-- At a stop the held lines and the last line are written, or a front of them. Where a write has
-- failed nothing more is written, and where there was no memory as much of what is held as can be.
-- `whole` says which stop of a run a stop of this part is.
abbrev pub Finishes : {S : Type 0} → (whole : S → Stop) → (line : Stop → Text) → Halt S → Course →
    (held : Text) → (old new : Option Text) → Type 0
Finishes whole line (halt.At stop) (Came came) held old new =
    (came ≡ whole stop) × Appends old new (held ++ line (whole stop))
Finishes whole line (halt.At stop) (Lost Cut (Some came)) held old new =
    (came ≡ whole stop) × AppendsFront old new (held ++ line (whole stop))
Finishes whole line (halt.Lost Cut) (Lost Cut None) held old new = Appends old new []
Finishes whole line (halt.Lost Starved) (Lost Starved None) held old new =
    AppendsFront old new held
Finishes whole line _ _ held old new = ⊥

-- a text is cut at the last line only where the output's count rose
abbrev pub HasLastCause : (out_rose : Type 0) → Course → Type 0
HasLastCause out_rose (Lost Cut (Some stop)) = out_rose
HasLastCause out_rose _ = ⊤

-- What a run owes: `went` says how it went. The other sentences of its statement follow.
pub record Owes (job : Option Job) (before after : Moment) (finished : Finished) : Type 0 where
  pub went : Went
  pub ends : end_of finished.violations finished.course ≡ end_of went.violations went.course
  pub asks : Asks job went.course went.early went.logs
  pub told : TellUses (uses_of went) before.opened after.opened
      before.hurt after.hurt before.unread after.unread
  pub file_cause : HasFileCause (stop_in went.course) (Rose before.file_faults after.file_faults)
  pub write_cause : HasWriteCause went.course (Rose before.out_faults after.out_faults)
  pub report : IfSome before.texts (λ texts. Reports job texts went before after)
