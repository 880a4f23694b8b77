use Rattle.std.proofs.Common.{◌≡◌, ◌∙◌, [], map, refl, sym, ap, subst, arith}
use Rattle.run_model.specs.Job.{Job, log_names}
use Rattle.run_model.specs.Uses.{given}
use Rattle.sample_log.specs.Left.{left_of}
use Rattle.sample_log.specs.Sample.{sample}
use Rattle.settings.specs.Asked.{FromFile, FromSample, Origin, asked_by, origin_in}
use Rattle.monitor_run.specs.Opening.{AsksTo}
use Rattle.monitor_run.specs.Standing.{has_times}
use Rattle.monitor_run.proofs.Accepting.Specifications.{plan_times}
use Rattle.monitor_run.proofs.Telling.LogUse.{asks_sampled, costs_log, log_sampled, log_starved}
use Rattle.run_model.proofs.Trace.{tell_none}
use Rattle.monitor_run.proofs.origin.run_log.Goals as goal

pub returns-in-Err-clause-halted : goal.returns-in-Err-clause-halted
returns-in-Err-clause-halted g c = (
  [],
  ([], map given (log_names (asked_by c.args.settings.now)), refl, tt),
  tell_none _ _ _,
  λ items s. log_starved (asked_by c.args.settings.now) (g.F.Files.texts c.args.files.now) items _ c.args.output.now c.args.judge.now c.args.steps.now c.requires.nothing,
)

pub returns-in-Err-open-clause-halted : goal.returns-in-Err-open-clause-halted
returns-in-Err-open-clause-halted g c = (
  [],
  ([], map given (log_names (asked_by c.args.settings.now)), refl, tt),
  tell_none _ _ _,
  λ items s. log_starved (asked_by c.args.settings.now) (g.F.Files.texts c.args.files.now) items _ c.args.output.now c.args.judge.now c.args.steps.now c.requires.nothing,
)

pub returns-in-File-clause-halted : goal.returns-in-File-clause-halted
returns-in-File-clause-halted g c =
    let job : Job = asked_by c.args.settings.now in
    let is_file : job.log ≡ FromFile c.as_str-name.result.now = ap origin_in c.in-File.is ∙ ap FromFile (sym c.as_str-name.ensures.value) in
    let (uses, asked, told, halted) = c.run_file.ensures.halted in
    (uses, subst (λ (o : Origin). AsksTo o c.run_file.result uses) (sym is_file) asked, told, λ items s. halted job items s is_file refl)

pub returns-clause-halted : goal.returns-clause-halted
returns-clause-halted g c =
    let job : Job = asked_by c.args.settings.now in
    let seed = c.in-Sample.seed in
    let events = c.in-Sample.events in
    let is_sample : job.log ≡ FromSample seed events = ap origin_in c.in-Sample.is in
    let r = c.read_log in
    let all = left_of c.new-source.result in
    let plan = c.args.judge.now.monitor.plan in
    let timed : c.is_timed-timed.result ≡ has_times plan = c.is_timed-timed.ensures ∙ ap has_times c.plan.ensures in (
      [],
      subst (λ (o : Origin). AsksTo o r.result []) (sym is_sample) (asks_sampled seed events _ r.result r.ensures.read (λ rose. omega (arith, rose))),
      tell_none _ _ _,
      λ items s. log_sampled job (g.F.Files.texts c.args.files.now) items seed events all _ _ _ r.new.output r.new.judge r.new.reader.given _ _ r.result is_sample
          (c.new-source.ensures.left ∙ ap (sample seed events) (timed ∙ plan_times items plan s.plan.subs))
          (r.ensures.halted job items all refl s refl)
          (costs_log job items c.args.judge.now c.args.judge.now.events r.new.reader.given _ _ s c.requires.events r.ensures.idle r.ensures.cost),
    )
