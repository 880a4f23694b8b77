use Rattle.std.proofs.Common.{◌∙◌, List, refl, ap, subst}
use Rattle.std.specs.Prelude.{Option, IfSome}
use Rattle.qtl_syntax.specs.Tree.{Text}
use Rattle.run_model.specs.Job.{Job}
use Rattle.settings.specs.Asked.{asked_by}
use Rattle.monitor_run.specs.Opening.{LogHalted}
use Rattle.monitor_run.proofs.ReadLog.Causes.{rose_after, rose_before}
use Rattle.monitor_run.proofs.Telling.Owing.{log_owes, spec_owes}
use Rattle.run_model.proofs.Trace.{tell_trans}
use Rattle.monitor_run.proofs.session.run_settings.Goals as goal

pub returns-in-Ok-clause-owes : goal.returns-in-Ok-clause-owes
returns-in-Ok-clause-owes g c =
    let job : Job = asked_by c.args.settings.now in
    let p = c.in-Ok.ensures.ok in
    let (early, asked, told) = c.in-Ok.ensures.uses in
    let r = c.run_log-halt in
    let (logs, asks, tells, halted) = r.ensures.halted in
    let f = c.finish_log-course in
    let judged = subst (λ (t : Option (List (Text × Text))). IfSome t (λ texts. LogHalted job texts p.items logs (g.W.Sink.written c.args.out.now) (g.W.Sink.written r.new.out) r.new.output r.new.judge c.args.steps.now r.new.steps r.result)) c.read_specification.ensures.texts
    (halted p.items p.judged) in
    log_owes job early logs f.result r.new.output _ _ (g.W.Sink.written r.new.out) r.new.judge p.items r.result r.new.steps _ _ _ _ asked told.left p.accepted (ap (λ x. x.variables) r.ensures.plan.plan ∙ p.judged.plan.variables) asks judged refl
    (tell_trans early logs _ (g.F.Files.opened c.read_specification.new.files) _ _ (g.F.Files.hurt c.read_specification.new.files) _ _ (g.F.Files.unread c.read_specification.new.files) _ told.told tells)
    r.ensures.opened (λ x. rose_after _ _ _ c.read_specification.ensures.later x) r.ensures.cause (λ x. rose_before _ _ _ f.ensures.later x) f.ensures.cause (λ x. rose_after _ _ _ r.ensures.out_later x) f.ensures.course refl

pub returns-in-Err-clause-owes : goal.returns-in-Err-clause-owes
returns-in-Err-clause-owes g c =
    let (uses, asked, told) = c.in-Err.ensures.uses in
    let f = c.finish_spec-course in
    spec_owes (asked_by c.args.settings.now) _ _ uses c.in-Err.halt f.result c.args.output.now _ asked told c.in-Err.ensures.err c.in-Err.ensures.cause c.requires.nothing refl f.ensures.course f.ensures.cause refl
