use Rattle.std.proofs.Common.{◌∙◌, ◌+◌, ◌++◌, take, length, sym, arith}
use Rattle.std.proofs.lemmas.List.{length-take-le}
use Rattle.monitor_run.specs.Judging.{judge_bound}
use Rattle.monitor_run.proofs.ReadLog.Causes.{cut_later, no_read}
use Rattle.monitor_run.proofs.ReadLog.Given.{is_fed_piece}
use Rattle.monitor_run.proofs.Judged.Spending.{keeps_none, spends_still}
use Rattle.monitor_run.proofs.ReadLog.Halts.{halts_at_feed, halts_at_read}
use Rattle.monitor_run.proofs.ReadLog.Reads.{reads_piece}
use Rattle.monitor_run.proofs.log.take_turn.Goals as goal

pub returns-in-Err-clause-err : goal.returns-in-Err-clause-err
returns-in-Err-clause-err g c job items all sent given short a =
    halts_at_read job items all sent given _ _ _ _ c.args.judge.now c.args.reader.now c.args.output.now c.fetch.new.output c.in-Err.halt a c.in-Err.ensures.failed

pub returns-in-Err-feed-clause-err : goal.returns-in-Err-feed-clause-err
returns-in-Err-feed-clause-err g c job items all sent given short a =
    let o = c.in-Ok.ensures in
    let piece = take c.in-Ok.count c.fetch.new.room in
    let n = length-take-le c.in-Ok.count c.fetch.new.room o.within in
    halts_at_feed job items all sent given _ (g.S.Source.left c.fetch.new.source) _ _ piece c.args.judge.now c.args.reader.now c.feed.new.self c.args.output.now c.fetch.new.output a o.taken o.sent.0 o.sent.1 (omega (arith, n, o.most, short)) c.feed.ensures.given

pub returns-in-Err-clause-plan : goal.returns-in-Err-clause-plan
returns-in-Err-clause-plan g c = keeps_none c.args.judge.now

pub returns-in-Err-clause-cost : goal.returns-in-Err-clause-cost
returns-in-Err-clause-cost g c large = spends_still (judge_bound c.args.judge.now.monitor) c.args.judge.now.events c.args.reader.now.given c.args.steps.now c.requires.events

pub returns-in-Err-feed-clause-plan : goal.returns-in-Err-feed-clause-plan
returns-in-Err-feed-clause-plan g c = keeps_none c.args.judge.now

pub returns-in-Err-feed-clause-cost : goal.returns-in-Err-feed-clause-cost
returns-in-Err-feed-clause-cost g c large =
    spends_still (judge_bound c.args.judge.now.monitor) c.args.judge.now.events c.feed.new.self.given c.args.steps.now (c.requires.events ∙ sym c.feed.ensures.given)

pub judge_fed-requires-clause-fed : goal.judge_fed-requires-clause-fed
judge_fed-requires-clause-fed g c =
    let f = c.requires.fed in
    let e = c.in-Ok-feed.ensures in
    let piece = take c.in-Ok.count c.fetch.new.room in
    record {
      count = f.0 + length piece;
      fed = is_fed_piece f.0 piece c.args.reader.now c.feed.new.self c.args.judge.now.monitor.last_time c.requires.on e.fed e.stands f.1;
      few = let n = length-take-le c.in-Ok.count c.fetch.new.room c.in-Ok.ensures.within in omega (arith, n, f.2, c.in-Ok.ensures.most);
    }

pub returns-in-Ok-judge_fed-clause-on : goal.returns-in-Ok-judge_fed-clause-on
returns-in-Ok-judge_fed-clause-on g c = c.in-Ok-judge_fed.ensures.on ∙ c.feed.ensures.ended ∙ c.requires.on

pub returns-in-Ok-judge_fed-clause-ok : goal.returns-in-Ok-judge_fed-clause-ok
returns-in-Ok-judge_fed-clause-ok g c job items all sent given short a =
    let e = c.in-Ok-feed.ensures in
    let o = c.in-Ok.ensures in
    let piece = take c.in-Ok.count c.fetch.new.room in
    let n = length-take-le c.in-Ok.count c.fetch.new.room o.within in
    let w = reads_piece job items all _ _ sent _ _ given piece c.args.judge.now c.args.reader.now c.feed.new.self c.args.output.now c.fetch.new.output a o.taken o.sent.0 o.sent.1 (omega (arith, n, o.most, short)) e.fed e.stands in
    (piece, n, c.in-Ok-judge_fed.ensures.ok job items all _ sent (given ++ piece) _ w)

pub returns-in-Ok-judge_fed-clause-fed : goal.returns-in-Ok-judge_fed-clause-fed
returns-in-Ok-judge_fed-clause-fed g c count f =
    let e = c.in-Ok-feed.ensures in
    let piece = take c.in-Ok.count c.fetch.new.room in
    let n = length-take-le c.in-Ok.count c.fetch.new.room c.in-Ok.ensures.within in
    c.in-Ok-judge_fed.ensures.fed (count + c.in-Ok.count) (rw (← n) (is_fed_piece count piece c.args.reader.now c.feed.new.self c.args.judge.now.monitor.last_time c.requires.on e.fed e.stands f))

pub returns-in-Err-judge_fed-clause-err : goal.returns-in-Err-judge_fed-clause-err
returns-in-Err-judge_fed-clause-err g c job items all sent given short a =
    let e = c.in-Ok-feed.ensures in
    let o = c.in-Ok.ensures in
    let piece = take c.in-Ok.count c.fetch.new.room in
    let n = length-take-le c.in-Ok.count c.fetch.new.room o.within in
    let w = reads_piece job items all _ _ sent _ _ given piece c.args.judge.now c.args.reader.now c.feed.new.self c.args.output.now c.fetch.new.output a o.taken o.sent.0 o.sent.1 (omega (arith, n, o.most, short)) e.fed e.stands in
    c.in-Err-judge_fed.ensures.err job items all _ sent (given ++ piece) _ w

pub returns-in-Err-judge_fed-clause-cause : goal.returns-in-Err-judge_fed-clause-cause
returns-in-Err-judge_fed-clause-cause g c =
    cut_later _ _ _ c.in-Err-judge_fed.halt c.fetch.ensures.out_later c.in-Err-judge_fed.ensures.cause

pub returns-in-Err-judge_fed-clause-read : goal.returns-in-Err-judge_fed-clause-read
returns-in-Err-judge_fed-clause-read g c = no_read _ c.in-Err-judge_fed.halt c.in-Err-judge_fed.ensures.no_read
