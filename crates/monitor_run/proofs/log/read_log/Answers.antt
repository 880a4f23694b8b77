use Rattle.std.proofs.Common.{◌≡◌, ◌∙◌, ◌+◌, ◌++◌, [], sym, refl, ap, length-append, arith}
use Rattle.monitor_run.specs.Judging.{judge_bound}
use Rattle.monitor_run.specs.Standing.{has_times}
use Rattle.monitor_run.proofs.ReadLog.Given.{is_fed_start}
use Rattle.monitor_run.proofs.Judged.Spending.{calls_cost, keeps_none, keeps_trans, spends_none, spends_to}
use Rattle.monitor_run.proofs.ReadLog.Reads.{reads_start}
use Rattle.monitor_run.proofs.log.read_log.Goals as goal

pub pieces-init : goal.pieces-init
pieces-init g c = record {
  reads = λ job items all limit_is s is. ([], refl, reads_start job items all _ _ c.args.judge.now c.args.reader.now c.args.output.now s is c.requires.fresh c.requires.stands c.requires.nothing);
  room = c.requires.room;
  closed = ap (λ r. r.ended) c.requires.fresh;
  fed = is_fed_start (has_times c.args.judge.now.monitor.plan) c.args.reader.now c.args.judge.now.monitor.last_time c.requires.fresh c.requires.stands c.requires.time;
  events = c.requires.events ∙ sym (ap (λ r. r.given) c.requires.fresh);
  ready = c.requires.ready;
  plan = keeps_none c.args.judge.now;
  within = omega arith;
  later = omega arith;
  out_later = omega arith;
  cost = λ large. spends_none (judge_bound c.args.judge.now.monitor) c.args.judge.now.events c.args.steps.now;
  idle = λ none. refl;
}

pub take_turn-requires-clause-fed : goal.take_turn-requires-clause-fed
take_turn-requires-clause-fed g c = (c.pieces.taken, c.pieces.invariant.fed, let n = c.pieces.invariant.within in let m = c.requires.small in omega (arith, n, m))

pub end_log-requires-clause-fed : goal.end_log-requires-clause-fed
end_log-requires-clause-fed g c = record {
  count = c.pieces.taken + c.in-Ok-eq0.field-0;
  fed = c.in-Ok-eq0.ensures.fed c.pieces.taken c.pieces.invariant.fed;
  few = let n = c.in-Ok-eq0.ensures.most in let m = c.requires.small in omega (arith, n, m, c.pieces.invariant.within);
}

pub returns-in-Ok-eq0-clause-halted : goal.returns-in-Ok-eq0-clause-halted
returns-in-Ok-eq0-clause-halted g c job items all limit_is s is =
    let w = c.pieces.invariant.reads job items all limit_is s is in
    let o = c.in-Ok-eq0.ensures in
    let t = o.ok job items all _ w.0 (let n = c.pieces.invariant.within in omega (arith, n, w.1, limit_is)) w.2 in
    c.end_log.ensures.halted job items all _ _ (w.0 ++ t.0) t.2 (o.ended c.in-Ok-eq0.field-0-test)

pub returns-in-Ok-eq0-clause-plan : goal.returns-in-Ok-eq0-clause-plan
returns-in-Ok-eq0-clause-plan g c =
    keeps_trans c.args.judge.now c.take_turn.new.judge c.end_log.new.judge (keeps_trans c.args.judge.now c.pieces.judge c.take_turn.new.judge c.pieces.invariant.plan c.take_turn.ensures.plan) c.end_log.ensures.plan

pub returns-in-Ok-eq0-clause-cost : goal.returns-in-Ok-eq0-clause-cost
returns-in-Ok-eq0-clause-cost g c =
    calls_cost c.args.judge.now c.take_turn.new.judge c.end_log.new.reader.given c.args.steps.now c.take_turn.new.steps c.end_log.new.steps
    (keeps_trans c.args.judge.now c.pieces.judge c.take_turn.new.judge c.pieces.invariant.plan c.take_turn.ensures.plan)
    (calls_cost c.args.judge.now c.pieces.judge c.take_turn.new.judge.events c.args.steps.now c.pieces.steps c.take_turn.new.steps c.pieces.invariant.plan c.pieces.invariant.cost
    (λ large. spends_to (judge_bound c.pieces.judge.monitor) c.pieces.judge.events c.take_turn.new.reader.given c.take_turn.new.judge.events c.pieces.steps c.take_turn.new.steps c.in-Ok-eq0.ensures.events (c.take_turn.ensures.cost large)))
    c.end_log.ensures.cost

pub returns-in-Err-clause-halted : goal.returns-in-Err-clause-halted
returns-in-Err-clause-halted g c job items all limit_is s is =
    let w = c.pieces.invariant.reads job items all limit_is s is in
    c.in-Err.ensures.err job items all _ w.0 (let n = c.pieces.invariant.within in omega (arith, n, w.1, limit_is)) w.2

pub returns-in-Err-clause-plan : goal.returns-in-Err-clause-plan
returns-in-Err-clause-plan g c = keeps_trans c.args.judge.now c.pieces.judge c.take_turn.new.judge c.pieces.invariant.plan c.take_turn.ensures.plan

pub returns-in-Err-clause-cost : goal.returns-in-Err-clause-cost
returns-in-Err-clause-cost g c =
    calls_cost c.args.judge.now c.pieces.judge c.take_turn.new.reader.given c.args.steps.now c.pieces.steps c.take_turn.new.steps c.pieces.invariant.plan c.pieces.invariant.cost c.take_turn.ensures.cost

pub pieces-preserved : goal.pieces-preserved
pieces-preserved g c =
    let i = c.pieces.invariant in
    let o = c.in-Ok.ensures in
    record {
      reads = λ job items all limit_is s is. let w = i.reads job items all limit_is s is in
          let t = o.ok job items all _ w.0 (let n = i.within in omega (arith, n, w.1, limit_is)) w.2 in
          (w.0 ++ t.0, (let n = length-append w.0 t.0 in omega (arith, n, w.1, t.1)), t.2);
      room = let n = c.take_turn.ensures.length in omega (arith, n, i.room);
      closed = o.on;
      fed = o.fed c.pieces.taken i.fed;
      events = o.events;
      ready = o.ready;
      plan = keeps_trans c.args.judge.now c.pieces.judge c.take_turn.new.judge i.plan o.plan;
      within = omega (arith, o.most, i.within);
      later = omega (arith, c.take_turn.ensures.later, i.later);
      out_later = omega (arith, c.take_turn.ensures.out_later, i.out_later);
      cost = calls_cost c.args.judge.now c.pieces.judge c.take_turn.new.judge.events c.args.steps.now c.pieces.steps c.take_turn.new.steps i.plan i.cost
          (λ large. spends_to (judge_bound c.pieces.judge.monitor) c.pieces.judge.events c.take_turn.new.reader.given c.take_turn.new.judge.events c.pieces.steps c.take_turn.new.steps o.events (c.take_turn.ensures.cost large));
      idle = λ none. let n = c.take_turn.ensures.grown in
          let before : c.pieces.reader.given ≡ 0 = omega (arith, n, none) in
          c.take_turn.ensures.idle (none ∙ sym before) ∙ i.idle before;
    }

pub returns-clause-halted : goal.returns-clause-halted
returns-clause-halted g c job items all limit_is s is =
    let w = c.pieces.invariant.reads job items all limit_is s is in
    c.past_limit.ensures.halted job items all _ w.0 limit_is w.2 (let t = c.pieces-test.false in omega (arith, w.1, t, c.pieces.invariant.within))

pub returns-clause-plan : goal.returns-clause-plan
returns-clause-plan g c = keeps_trans c.args.judge.now c.pieces.judge c.past_limit.new.judge c.pieces.invariant.plan c.past_limit.ensures.plan

pub returns-clause-cost : goal.returns-clause-cost
returns-clause-cost g c =
    calls_cost c.args.judge.now c.pieces.judge c.past_limit.new.reader.given c.args.steps.now c.pieces.steps c.past_limit.new.steps c.pieces.invariant.plan c.pieces.invariant.cost c.past_limit.ensures.cost

pub returns-in-Ok-eq0-clause-idle : goal.returns-in-Ok-eq0-clause-idle
returns-in-Ok-eq0-clause-idle g c none =
    let n = c.take_turn.ensures.grown in
    let m = c.end_log.ensures.grown in
    let now : c.take_turn.new.reader.given ≡ 0 = omega (arith, m, none) in
    let before : c.pieces.reader.given ≡ 0 = omega (arith, n, now) in
    c.end_log.ensures.idle (none ∙ sym now) ∙ c.take_turn.ensures.idle (now ∙ sym before) ∙ c.pieces.invariant.idle before

pub returns-in-Err-clause-idle : goal.returns-in-Err-clause-idle
returns-in-Err-clause-idle g c none =
    let n = c.take_turn.ensures.grown in
    let before : c.pieces.reader.given ≡ 0 = omega (arith, n, none) in
    c.take_turn.ensures.idle (none ∙ sym before) ∙ c.pieces.invariant.idle before

pub returns-clause-idle : goal.returns-clause-idle
returns-clause-idle g c none =
    let n = c.past_limit.ensures.grown in
    let before : c.pieces.reader.given ≡ 0 = omega (arith, n, none) in
    c.past_limit.ensures.idle (none ∙ sym before) ∙ c.pieces.invariant.idle before
