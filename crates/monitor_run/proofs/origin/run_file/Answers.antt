use Rattle.std.proofs.Common.{[], ◌∷◌, refl, ap, nat_lt}
use Rattle.std.specs.Prelude.{Err}
use Rattle.run_model.specs.Uses.{Closed, NotGiven, given}
use Rattle.monitor_run.proofs.Telling.LogUse.{asks_closed, costs_log, log_closed, log_refused, log_starved}
use Rattle.monitor_run.proofs.Telling.OneUse.{has_failed}
use Rattle.run_model.proofs.Trace.{stays_gained, tell_closed, tell_refused}
use Rattle.monitor_run.proofs.origin.run_file.Goals as goal

pub returns-in-Ok-clause-halted : goal.returns-in-Ok-clause-halted
returns-in-Ok-clause-halted g c =
    let r = c.read_log-halt.ensures in
    let o = c.in-Ok.ensures in
    let hurt = nat_lt 0 (g.F.Src.Source.faults c.read_log-halt.new.source) in
    let left = g.F.Src.Source.left c.read_log-halt.new.source in (
      record { name = c.args.name.now; came = Closed hurt left } ∷ [],
      asks_closed c.args.name.now hurt left _ c.read_log-halt.result r.read (has_failed _ _ o.fresh),
      tell_closed c.args.name.now hurt left _ (g.F.Files.opened c.open.new.self) _ _ (g.F.Files.hurt c.open.new.self) _ _ (g.F.Files.unread c.open.new.self) _
          (o.asked (λ h. let n : ⊥ = cc in n)) c.close.ensures.opened o.hurt c.close.ensures.hurt o.unread c.close.ensures.unread,
      λ job items s is_file limit_is. log_closed job (g.F.Files.texts c.args.files.now) items c.args.name.now _ left _ _ c.read_log-halt.new.output hurt c.read_log-halt.new.judge c.read_log-halt.new.reader.given _ _ c.read_log-halt.result
          is_file o.text (λ all is. r.halted job items all limit_is s is)
          (costs_log job items c.args.judge.now c.args.judge.now.events c.read_log-halt.new.reader.given _ _ s c.requires.events r.idle r.cost),
    )

pub returns-in-Err-Failed-clause-halted : goal.returns-in-Err-Failed-clause-halted
returns-in-Err-Failed-clause-halted g c = (
  record { name = c.args.name.now; came = NotGiven } ∷ [],
  (refl, tt, tt),
  tell_refused c.args.name.now _ (g.F.Files.opened c.open.new.self) _ (g.F.Files.hurt c.open.new.self) _ (g.F.Files.unread c.open.new.self) (c.open.ensures.asked (λ h. let n : ⊥ = cc in n)) c.open.ensures.hurt c.open.ensures.unread,
  λ job items s is_file limit_is. log_refused job (g.F.Files.texts c.args.files.now) items c.args.name.now _ c.args.output.now c.args.judge.now c.args.steps.now s.events s.violations c.requires.nothing,
)

pub returns-in-Err-NoMemory-clause-halted : goal.returns-in-Err-NoMemory-clause-halted
returns-in-Err-NoMemory-clause-halted g c = (
  [],
  ([], given c.args.name.now ∷ [], refl, tt),
  record {
    opened = stays_gained _ (g.F.Files.opened c.open.new.self) (c.in-Err-NoMemory.ensures.opened (ap Err c.in-Err-NoMemory.field-0-is));
    hurt = stays_gained _ (g.F.Files.hurt c.open.new.self) c.open.ensures.hurt;
    unread = stays_gained _ (g.F.Files.unread c.open.new.self) c.open.ensures.unread;
  },
  λ job items s is_file limit_is. log_starved job (g.F.Files.texts c.args.files.now) items _ c.args.output.now c.args.judge.now c.args.steps.now c.requires.nothing,
)
