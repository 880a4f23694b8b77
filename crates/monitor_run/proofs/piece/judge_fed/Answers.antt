use Rattle.std.proofs.Common.{◌∙◌, ℕ, refl, sym, subst, arith}
use Rattle.monitor_run.specs.Judging.{judge_bound}
use Rattle.monitor_run.specs.Reading.{IsFed, IsFedWithin}
use Rattle.monitor_run.proofs.ReadLog.Causes.{cut_later, record_cause, record_unread}
use Rattle.monitor_run.proofs.ReadLog.Halts.{halts_at_event, halts_at_record}
use Rattle.monitor_run.proofs.ReadLog.Reads.{reads_all, reads_event}
use Rattle.monitor_run.proofs.ReadLog.Given.{fed_event, fed_still, fed_all, fed_fault, few_fed, given_more, given_still, is_fed_event, is_fed_still, is_fed_within}
use Rattle.monitor_run.proofs.Judged.Spending.{asked_cost, keeps_none, keeps_trans, spends_none, spends_to}
use Rattle.monitor_run.proofs.ReadLog.Given.{fed_time}
use Rattle.monitor_run.proofs.piece.judge_fed.Goals as goal

pub records-init : goal.records-init
records-init g c = record {
  reads = λ job items all left sent given ended w. w;
  within = c.requires.fed;
  fed = λ count f. f;
  closed = refl;
  events = c.requires.events;
  ready = c.requires.ready;
  plan = keeps_none c.args.judge.now;
  later = omega arith;
  cost = λ large. spends_none (judge_bound c.args.judge.now.monitor) c.args.judge.now.events c.args.steps.now;
  grown = omega arith;
  idle = λ same. refl;
}

pub next-requires : goal.next-requires
next-requires g c = record { room = let n = few_fed 281474976710656 c.records.reader c.records.judge.monitor.last_time c.records.invariant.within in omega (arith, n) }

pub judge_event-requires-clause-ready : goal.judge_event-requires-clause-ready
judge_event-requires-clause-ready g c = c.records.invariant.ready

pub judge_event-requires-clause-few : goal.judge_event-requires-clause-few
judge_event-requires-clause-few g c =
    let e = c.in-Ok-Some.ensures in
    let t = c.next.new.self in
    let more : IsFedWithin 281474976710656 t c.in-Ok-Some.event.time = is_fed_within 281474976710656 c.records.reader t c.records.judge.monitor.last_time c.in-Ok-Some.event.time (λ count. is_fed_event count c.records.reader t c.records.judge.monitor.last_time c.in-Ok-Some.field-0 c.in-Ok-Some.event c.in-Ok-Some.field-0-is e.answer e.stands e.timed e.ended e.given) c.records.invariant.within in
    let n = few_fed 281474976710656 t c.in-Ok-Some.event.time more in
    let one = given_more c.in-Ok-Some.field-0 c.in-Ok-Some.event c.records.reader.given t.given c.in-Ok-Some.field-0-is e.given in
    omega (arith, n, one, c.records.invariant.events)

pub judge_event-requires-clause-time : goal.judge_event-requires-clause-time
judge_event-requires-clause-time g c =
    let e = c.in-Ok-Some.ensures in
    let t = c.next.new.self in
    let f = c.records.invariant.within.fed in
    let later = fed_time c.times_never_fall.ensures.rising f.timed f.bytes f.ended f.log c.in-Ok-Some.event t
    (fed_event f.timed f.bytes f.ended f.log c.records.reader t c.in-Ok-Some.field-0 c.in-Ok-Some.event c.in-Ok-Some.field-0-is f.fed (e.answer f.bytes f.fed.stands) (e.stands f.bytes f.fed.stands) e.timed e.ended e.given) in
    omega (arith, later, f.time)

pub returns-in-Err-judge_event-clause-err : goal.returns-in-Err-judge_event-clause-err
returns-in-Err-judge_event-clause-err g c job items all left sent given ended reads =
    let w = c.records.invariant.reads job items all left sent given ended reads in
    let e = c.in-Ok-Some.ensures in
    let j = c.in-Err-judge_event.ensures in
    let t = c.next.new.self in
    let fed = fed_event _ given ended w.log c.records.reader t c.in-Ok-Some.field-0 c.in-Ok-Some.event c.in-Ok-Some.field-0-is w.bytes.fed (e.answer given w.bytes.fed.stands) (e.stands given w.bytes.fed.stands) e.timed e.ended e.given in
    halts_at_event job items all left sent given ended _ _ c.records.judge c.judge_event.new.judge c.records.reader t c.records.output c.judge_event.new.output c.in-Ok-Some.event c.in-Err-judge_event.halt w fed
    j.plan (j.judged w.log w.judged.events w.judged.stands) j.written

pub returns-in-Err-judge_event-clause-plan : goal.returns-in-Err-judge_event-clause-plan
returns-in-Err-judge_event-clause-plan g c = keeps_trans c.args.judge.now c.records.judge c.judge_event.new.judge c.records.invariant.plan c.judge_event.ensures.plan

pub returns-in-Err-judge_event-clause-cause : goal.returns-in-Err-judge_event-clause-cause
returns-in-Err-judge_event-clause-cause g c = cut_later _ _ _ c.in-Err-judge_event.halt c.records.invariant.later c.in-Err-judge_event.ensures.cause

pub returns-in-Err-judge_event-clause-grown : goal.returns-in-Err-judge_event-clause-grown
returns-in-Err-judge_event-clause-grown g c =
    let one = given_more c.in-Ok-Some.field-0 c.in-Ok-Some.event c.records.reader.given c.next.new.self.given c.in-Ok-Some.field-0-is c.in-Ok-Some.ensures.given in
    omega (arith, one, c.records.invariant.grown)

pub returns-in-Err-judge_event-clause-idle : goal.returns-in-Err-judge_event-clause-idle
returns-in-Err-judge_event-clause-idle g c same =
    let one = given_more c.in-Ok-Some.field-0 c.in-Ok-Some.event c.records.reader.given c.next.new.self.given c.in-Ok-Some.field-0-is c.in-Ok-Some.ensures.given in
    absurd (omega (arith, one, same, c.records.invariant.grown))

pub returns-in-Err-judge_event-clause-out_later : goal.returns-in-Err-judge_event-clause-out_later
returns-in-Err-judge_event-clause-out_later g c = omega (arith, c.judge_event.ensures.out_later, c.records.invariant.later)

pub returns-in-Err-judge_event-clause-cost : goal.returns-in-Err-judge_event-clause-cost
returns-in-Err-judge_event-clause-cost g c =
    let one = given_more c.in-Ok-Some.field-0 c.in-Ok-Some.event c.records.reader.given c.next.new.self.given c.in-Ok-Some.field-0-is c.in-Ok-Some.ensures.given in
    asked_cost c.args.judge.now c.records.judge c.next.new.self.given c.args.steps.now c.records.steps c.judge_event.new.steps c.records.invariant.plan
    (omega (arith, one, c.records.invariant.events)) c.records.invariant.cost c.judge_event.ensures.cost

pub records-smaller : goal.records-smaller
records-smaller g c =
    let e = c.in-Ok-Some.ensures in
    let t = c.next.new.self in
    let more : IsFedWithin 281474976710656 t c.in-Ok-Some.event.time = is_fed_within 281474976710656 c.records.reader t c.records.judge.monitor.last_time c.in-Ok-Some.event.time (λ count. is_fed_event count c.records.reader t c.records.judge.monitor.last_time c.in-Ok-Some.field-0 c.in-Ok-Some.event c.in-Ok-Some.field-0-is e.answer e.stands e.timed e.ended e.given) c.records.invariant.within in
    let n = few_fed 281474976710656 t c.in-Ok-Some.event.time more in
    let one = given_more c.in-Ok-Some.field-0 c.in-Ok-Some.event c.records.reader.given t.given c.in-Ok-Some.field-0-is e.given in
    omega (arith, n, one)

pub records-preserved : goal.records-preserved
records-preserved g c =
    let i = c.records.invariant in
    let e = c.in-Ok-Some.ensures in
    let j = c.in-Ok.ensures in
    let t = c.next.new.self in
    let last : ℕ = c.records.judge.monitor.last_time in
    let now : ℕ = c.judge_event.new.judge.monitor.last_time in
    let on : (count : ℕ) → IsFed count c.records.reader last → IsFed count t now = λ count f.
    subst (λ (n : ℕ). IsFed count t n) (sym j.time) (is_fed_event count c.records.reader t last c.in-Ok-Some.field-0 c.in-Ok-Some.event c.in-Ok-Some.field-0-is e.answer e.stands e.timed e.ended e.given f) in
    record {
      reads = λ job items all left sent given ended reads.
          let w = i.reads job items all left sent given ended reads in
          let fed = fed_event _ given ended w.log c.records.reader t c.in-Ok-Some.field-0 c.in-Ok-Some.event c.in-Ok-Some.field-0-is w.bytes.fed (e.answer given w.bytes.fed.stands) (e.stands given w.bytes.fed.stands) e.timed e.ended e.given in
          reads_event job items all left sent _ _ given ended c.records.judge c.judge_event.new.judge c.records.reader t c.records.output c.judge_event.new.output c.in-Ok-Some.event w fed
          j.plan (j.judged w.log w.judged.events w.judged.stands) j.written;
      within = is_fed_within 281474976710656 c.records.reader t last now on i.within;
      fed = λ count f. on count (i.fed count f);
      closed = e.ended ∙ i.closed;
      events = let one = given_more c.in-Ok-Some.field-0 c.in-Ok-Some.event c.records.reader.given t.given c.in-Ok-Some.field-0-is e.given in let two = j.written.0 in omega (arith, two, i.events, one);
      ready = j.ready;
      plan = keeps_trans c.args.judge.now c.records.judge c.judge_event.new.judge i.plan j.plan;
      later = omega (arith, j.out_later, i.later);
      cost = asked_cost c.args.judge.now c.records.judge c.judge_event.new.judge.events c.args.steps.now c.records.steps c.judge_event.new.steps i.plan j.written.0 i.cost j.cost;
      grown = let one = given_more c.in-Ok-Some.field-0 c.in-Ok-Some.event c.records.reader.given t.given c.in-Ok-Some.field-0-is e.given in omega (arith, one, i.grown);
      idle = λ same. let one = given_more c.in-Ok-Some.field-0 c.in-Ok-Some.event c.records.reader.given t.given c.in-Ok-Some.field-0-is e.given in absurd (omega (arith, one, same, i.grown));
    }

pub returns-in-Ok-None-clause-ok : goal.returns-in-Ok-None-clause-ok
returns-in-Ok-None-clause-ok g c job items all left sent given ended reads =
    let w = c.records.invariant.reads job items all left sent given ended reads in
    let e = c.in-Ok-None.ensures in
    reads_all job items all left sent _ given ended c.records.judge c.records.reader c.next.new.self c.records.output w
    (fed_still _ given ended w.log c.records.reader c.next.new.self c.in-Ok-None.field-0 c.in-Ok-None.field-0-is w.bytes.fed (e.stands given w.bytes.fed.stands) e.timed e.ended e.given)
    (fed_all _ given ended w.log c.records.reader c.in-Ok-None.field-0 c.in-Ok-None.field-0-is w.bytes.fed (e.answer given w.bytes.fed.stands))

pub returns-in-Ok-None-clause-fed : goal.returns-in-Ok-None-clause-fed
returns-in-Ok-None-clause-fed g c count f =
    let e = c.in-Ok-None.ensures in
    is_fed_still count c.records.reader c.next.new.self c.records.judge.monitor.last_time c.in-Ok-None.field-0 c.in-Ok-None.field-0-is e.stands e.timed e.ended e.given (c.records.invariant.fed count f)

pub returns-in-Ok-None-clause-on : goal.returns-in-Ok-None-clause-on
returns-in-Ok-None-clause-on g c = c.in-Ok-None.ensures.ended ∙ c.records.invariant.closed

pub returns-in-Ok-None-clause-events : goal.returns-in-Ok-None-clause-events
returns-in-Ok-None-clause-events g c = let same = given_still c.in-Ok-None.field-0 c.records.reader.given c.next.new.self.given c.in-Ok-None.field-0-is c.in-Ok-None.ensures.given in omega (arith, same, c.records.invariant.events)

pub returns-in-Ok-None-clause-ready : goal.returns-in-Ok-None-clause-ready
returns-in-Ok-None-clause-ready g c = c.records.invariant.ready

pub returns-in-Ok-None-clause-plan : goal.returns-in-Ok-None-clause-plan
returns-in-Ok-None-clause-plan g c = c.records.invariant.plan

pub returns-in-Ok-None-clause-out_later : goal.returns-in-Ok-None-clause-out_later
returns-in-Ok-None-clause-out_later g c = c.records.invariant.later

pub returns-in-Ok-None-clause-cost : goal.returns-in-Ok-None-clause-cost
returns-in-Ok-None-clause-cost g c large =
    let same = given_still c.in-Ok-None.field-0 c.records.reader.given c.next.new.self.given c.in-Ok-None.field-0-is c.in-Ok-None.ensures.given in
    spends_to (judge_bound c.args.judge.now.monitor) c.args.judge.now.events c.records.judge.events c.next.new.self.given c.args.steps.now c.records.steps (omega (arith, same, c.records.invariant.events)) (c.records.invariant.cost large)

pub returns-in-Err-clause-err : goal.returns-in-Err-clause-err
returns-in-Err-clause-err g c job items all left sent given ended reads =
    let w = c.records.invariant.reads job items all left sent given ended reads in
    let e = c.in-Err.ensures in
    rw c.halt_of_record.ensures (halts_at_record job items all left sent given ended _ c.records.judge c.records.reader c.next.new.self c.records.output c.in-Err.fault w e.given (fed_fault _ given ended w.log c.records.reader c.in-Err.fault w.bytes.fed (e.answer given w.bytes.fed.stands)))

pub returns-in-Err-clause-plan : goal.returns-in-Err-clause-plan
returns-in-Err-clause-plan g c = c.records.invariant.plan

pub returns-in-Err-clause-cause : goal.returns-in-Err-clause-cause
returns-in-Err-clause-cause g c = record_cause _ c.in-Err.fault c.halt_of_record.result c.halt_of_record.ensures

pub returns-in-Err-clause-no_read : goal.returns-in-Err-clause-no_read
returns-in-Err-clause-no_read g c = record_unread c.in-Err.fault c.halt_of_record.result c.halt_of_record.ensures

pub returns-in-Err-clause-grown : goal.returns-in-Err-clause-grown
returns-in-Err-clause-grown g c = let same = c.in-Err.ensures.given in omega (arith, same, c.records.invariant.grown)

pub returns-in-Err-clause-idle : goal.returns-in-Err-clause-idle
returns-in-Err-clause-idle g c same = c.records.invariant.idle (sym c.in-Err.ensures.given ∙ same)

pub returns-in-Ok-None-clause-grown : goal.returns-in-Ok-None-clause-grown
returns-in-Ok-None-clause-grown g c = let same = given_still c.in-Ok-None.field-0 c.records.reader.given c.next.new.self.given c.in-Ok-None.field-0-is c.in-Ok-None.ensures.given in omega (arith, same, c.records.invariant.grown)

pub returns-in-Ok-None-clause-idle : goal.returns-in-Ok-None-clause-idle
returns-in-Ok-None-clause-idle g c same = c.records.invariant.idle (sym (given_still c.in-Ok-None.field-0 c.records.reader.given c.next.new.self.given c.in-Ok-None.field-0-is c.in-Ok-None.ensures.given) ∙ same)

pub returns-in-Err-clause-out_later : goal.returns-in-Err-clause-out_later
returns-in-Err-clause-out_later g c = c.records.invariant.later

pub returns-in-Err-clause-cost : goal.returns-in-Err-clause-cost
returns-in-Err-clause-cost g c large =
    spends_to (judge_bound c.args.judge.now.monitor) c.args.judge.now.events c.records.judge.events c.next.new.self.given c.args.steps.now c.records.steps (c.in-Err.ensures.given ∙ sym c.records.invariant.events) (c.records.invariant.cost large)
