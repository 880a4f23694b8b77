use Rattle.monitor_run.proofs.ReadLog.Given.{is_fed_end, is_fed_within}
use Rattle.monitor_run.proofs.ReadLog.Halts.{halts_whole}
use Rattle.monitor_run.proofs.ReadLog.Reads.{reads_end}
use Rattle.monitor_run.proofs.log.end_log.Goals as goal

pub judge_fed-requires-clause-fed : goal.judge_fed-requires-clause-fed
judge_fed-requires-clause-fed g c =
    let e = c.end.ensures in
    let last = c.args.judge.now.monitor.last_time in
    is_fed_within 281474976710656 c.args.reader.now c.end.new.self last last (λ count. is_fed_end count c.args.reader.now c.end.new.self last c.requires.on e.timed e.ended e.given e.stands) c.requires.fed

pub returns-in-Ok-clause-halted : goal.returns-in-Ok-clause-halted
returns-in-Ok-clause-halted g c job items all left sent given a at_end =
    let e = c.end.ensures in
    let walk = reads_end job items all left sent _ given c.args.judge.now c.args.reader.now c.end.new.self c.args.output.now a at_end e.timed e.ended e.given e.stands in
    halts_whole job items all sent given left _ c.judge_fed.new.judge c.judge_fed.new.reader c.judge_fed.new.output (c.in-Ok.ensures.ok job items all left sent given _ walk)

pub returns-in-Err-clause-halted : goal.returns-in-Err-clause-halted
returns-in-Err-clause-halted g c job items all left sent given a at_end =
    let e = c.end.ensures in
    let walk = reads_end job items all left sent _ given c.args.judge.now c.args.reader.now c.end.new.self c.args.output.now a at_end e.timed e.ended e.given e.stands in
    c.in-Err.ensures.err job items all left sent given _ walk
