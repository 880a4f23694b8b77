use Rattle.std.proofs.Common.{◌≡◌, ◌≤◌, length, take}
use Rattle.monitor_run.specs.Judging.{witnesses_in}
use Rattle.monitor_run.specs.Standing.{row_of}
use Rattle.monitor_run.proofs.Judged.Writing.{HavePassed}
use Rattle.monitor_run.proofs.judge.put_verdicts.Given as goal

-- the verdicts on the first properties were written, and so many witnesses with them
abbrev pub invariant-loop-p : goal.invariant-loop-p
invariant-loop-p g l = record {
  passed : HavePassed l.shows_true l.event l.monitor l.p (g.W.Sink.written l.fn.out) (g.W.Sink.written l.out) l.fn.output l.output;
  behind : l.next ≡ length (witnesses_in (take l.p (row_of l.monitor)));
  later : g.W.Sink.faults l.fn.out ≤ g.W.Sink.faults l.out;
}
