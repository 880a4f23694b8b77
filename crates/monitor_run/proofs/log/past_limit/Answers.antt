use Rattle.std.proofs.Common.{◌≡◌, ◌∙◌, ℕ, List, [], ap, sym, subst, take, length, arith}
use Rattle.std.specs.Io.KnownBytes.{Consumes}
use Rattle.std.proofs.lemmas.List.{length-take-le}
use Rattle.run_model.specs.declared.stop.Halt.TheVariants.{At}
use Rattle.run_model.specs.declared.stop.LogStop.TheVariants.{Long}
use Rattle.monitor_run.specs.Judging.{judge_bound}
use Rattle.monitor_run.specs.Reading.{Halted}
use Rattle.monitor_run.proofs.ReadLog.Causes.{cut_later, no_read}
use Rattle.monitor_run.proofs.Judged.Spending.{keeps_none, spends_still}
use Rattle.monitor_run.proofs.ReadLog.Halts.{halts_at_read, halts_long}
use Rattle.monitor_run.proofs.ReadLog.Reads.{reads_same}
use Rattle.monitor_run.proofs.log.past_limit.Goals as goal

pub returns-in-Ok-eq0-clause-halted : goal.returns-in-Ok-eq0-clause-halted
returns-in-Ok-eq0-clause-halted g c job items all sent given limit_is a full =
    let o = c.in-Ok-eq0.ensures in
    let none : take c.in-Ok-eq0.field-0 c.fetch.new.room ≡ [] = ap (λ (n : ℕ). take n c.fetch.new.room) c.in-Ok-eq0.field-0-test in
    c.end_log.ensures.halted job items all _ sent given
    (reads_same job items all _ _ sent _ _ given c.args.judge.now c.args.reader.now c.args.output.now c.fetch.new.output a (subst (λ (l : List ℕ). Consumes (g.S.Source.left c.args.source.now) (g.S.Source.left c.fetch.new.source) l) none o.taken) o.sent.0 o.sent.1) (o.ended c.in-Ok-eq0.field-0-test)

pub returns-in-Ok-eq0-clause-cause : goal.returns-in-Ok-eq0-clause-cause
returns-in-Ok-eq0-clause-cause g c = cut_later _ _ _ c.end_log.result c.fetch.ensures.out_later c.end_log.ensures.cause

pub returns-in-Ok-eq0-clause-read : goal.returns-in-Ok-eq0-clause-read
returns-in-Ok-eq0-clause-read g c = no_read _ c.end_log.result c.end_log.ensures.no_read

pub returns-in-Ok-clause-halted : goal.returns-in-Ok-clause-halted
returns-in-Ok-clause-halted g c job items all sent given limit_is a full =
    let o = c.in-Ok.ensures in
    let piece = take c.in-Ok.field-0 c.fetch.new.room in
    let n = length-take-le c.in-Ok.field-0 c.fetch.new.room o.within in
    let one : length piece ≡ 1 = let t = c.in-Ok.field-0-test in let m = o.most in omega (arith, n, t, m) in
    subst (λ (n : ℕ). Halted job items all (g.S.Source.left c.fetch.new.source) sent (g.W.Sink.written c.fetch.new.out) c.fetch.new.output c.args.judge.now c.args.reader.now.given (At (Long n))) limit_is
    (halts_long job items all sent given _ (g.S.Source.left c.fetch.new.source) _ _ piece c.args.judge.now c.args.reader.now c.args.output.now c.fetch.new.output a o.taken one o.sent.0 o.sent.1 (full ∙ sym limit_is))

pub returns-in-Err-clause-halted : goal.returns-in-Err-clause-halted
returns-in-Err-clause-halted g c job items all sent given limit_is a full =
    halts_at_read job items all sent given _ _ _ _ c.args.judge.now c.args.reader.now c.args.output.now c.fetch.new.output c.in-Err.halt a c.in-Err.ensures.failed

pub returns-in-Ok-clause-plan : goal.returns-in-Ok-clause-plan
returns-in-Ok-clause-plan g c = keeps_none c.args.judge.now

pub returns-in-Ok-clause-cost : goal.returns-in-Ok-clause-cost
returns-in-Ok-clause-cost g c large = spends_still (judge_bound c.args.judge.now.monitor) c.args.judge.now.events c.args.reader.now.given c.args.steps.now c.requires.events

pub returns-in-Err-clause-plan : goal.returns-in-Err-clause-plan
returns-in-Err-clause-plan g c = keeps_none c.args.judge.now

pub returns-in-Err-clause-cost : goal.returns-in-Err-clause-cost
returns-in-Err-clause-cost g c large = spends_still (judge_bound c.args.judge.now.monitor) c.args.judge.now.events c.args.reader.now.given c.args.steps.now c.requires.events
