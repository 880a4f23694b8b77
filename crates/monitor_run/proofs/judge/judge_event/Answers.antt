use Rattle.std.proofs.Common.{◌∙◌, ℕ, ◌+◌, map, refl, ap, subst, arith}
use Rattle.std.specs.Prelude.{is_ok}
use Rattle.subformulas.specs.Table.{IsSound}
use Rattle.monitor_run.proofs.Judged.Writing.{count_is}
use Rattle.monitor_run.specs.declared.judge.Judge.{Judge}
use Rattle.monitor_run.proofs.Judged.Judges.{refused, taken}
use Rattle.monitor_run.proofs.judge.judge_event.Goals as goal

pub returns-in-Err-clause-judged : goal.returns-in-Err-clause-judged
returns-in-Err-clause-judged g c log same s =
    let j : Judge = c.args.judge.now in
    let new : Judge = record { alloc = j.alloc; monitor = c.step.new.self; shows_true = j.shows_true; events = j.events; violations = j.violations } in
    rw c.halt_of_step.ensures (refused j new log c.args.event.now c.in-Err.end s c.is_event.ensures c.requires.time c.in-Err.ensures.answers)

pub put_verdicts-requires : goal.put_verdicts-requires
put_verdicts-requires g c = record {
  live = c.step.ensures.live ∙ ap is_ok c.in-Ok.is;
  some = let n = c.in-Ok.ensures.events in omega (arith, n);
  are = ap (map (λ w. w.items)) c.as_slice-witnesses.ensures.value ∙ c.in-Ok-find_witnesses.ensures.are;
}

pub returns-in-Ok-put_verdicts-clause-ready : goal.returns-in-Ok-put_verdicts-clause-ready
returns-in-Ok-put_verdicts-clause-ready g c =
    let counted = count_is (λ w. w.items) c.step.new.self c.in-Ok-find_witnesses.found.items c.in-Ok-find_witnesses.ensures.are in
    let few = counted.1 in
    let plan = subst IsSound c.plan.ensures c.count-rows.ensures.sound in
    record {
      live = c.step.ensures.live ∙ ap is_ok c.in-Ok.is;
      events = c.in-Ok.ensures.events ∙ ap (λ (n : ℕ). n + 1) c.requires.ready.events;
      fewer = omega (arith, few, plan.few_props, c.requires.ready.fewer, c.len.ensures);
    }

pub returns-in-Ok-put_verdicts-clause-judged : goal.returns-in-Ok-put_verdicts-clause-judged
returns-in-Ok-put_verdicts-clause-judged g c log same s =
    taken c.args.judge.now.monitor c.step.new.self log c.args.event.now _ s c.is_event.ensures c.requires.time c.in-Ok.ensures.judged
    c.is_live-live.ensures.sound (c.is_live-live.ensures.alive (c.is_live-live.ensures.is ∙ (c.step.ensures.live ∙ ap is_ok c.in-Ok.is))) c.in-Ok.ensures.answers

pub returns-in-Ok-put_verdicts-clause-written : goal.returns-in-Ok-put_verdicts-clause-written
returns-in-Ok-put_verdicts-clause-written g c =
    let counted = count_is (λ w. w.items) c.step.new.self c.in-Ok-find_witnesses.found.items c.in-Ok-find_witnesses.ensures.are in (
      refl,
      (let n = counted.0 in omega (arith, n, c.len.ensures)),
      c.in-Ok-put_verdicts.ensures.ok,
    )

pub returns-clause-judged : goal.returns-clause-judged
returns-clause-judged g c log same s =
    taken c.args.judge.now.monitor c.step.new.self log c.args.event.now _ s c.is_event.ensures c.requires.time c.in-Ok.ensures.judged
    c.is_live-live.ensures.sound (c.is_live-live.ensures.alive (c.is_live-live.ensures.is ∙ (c.step.ensures.live ∙ ap is_ok c.in-Ok.is))) c.in-Ok.ensures.answers

pub returns-clause-written : goal.returns-clause-written
returns-clause-written g c = (refl, c.in-Err-put_verdicts.ensures.err)
