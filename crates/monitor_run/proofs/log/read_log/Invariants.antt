use Rattle.std.proofs.Common.{◌≡◌, ◌-◌, ◌<◌, ◌≤◌, List, [], length, false, Some}
use Rattle.bdd_ops.specs.Shelf.{IsLarge}
use Rattle.qtl_syntax.specs.Tree.{Text, Item}
use Rattle.run_model.specs.Job.{Job}
use Rattle.monitor_run.specs.Judging.{Spends, judge_bound}
use Rattle.monitor_run.specs.Reading.{IsFed, ReadsAll}
use Rattle.monitor_run.specs.Standing.{HasJudged, IsReady, KeepsPlan}
use Rattle.monitor_run.proofs.log.read_log.Given as goal

-- so many bytes were taken, and their events were judged
abbrev pub invariant-pieces : goal.invariant-pieces
invariant-pieces g l = record {
  reads : (job : Job) (items : List Item) (all : Text) → job.limit ≡ l.limit → HasJudged job items [] [] l.fn.judge → g.S.Source.left l.fn.source ≡ Some all → (given : Text) × (length given ≡ l.taken)
      × ReadsAll job items all (g.S.Source.left l.source) (g.W.Sink.written l.fn.out) (g.W.Sink.written l.out) given false l.judge l.reader l.output;
  room : 0 < length l.room;
  closed : l.reader.ended ≡ false;
  fed : IsFed l.taken l.reader l.judge.monitor.last_time;
  events : l.judge.events ≡ l.reader.given;
  ready : IsReady l.judge;
  plan : KeepsPlan l.fn.judge l.judge;
  within : l.taken ≤ l.limit;
  later : g.S.Source.faults l.fn.source ≤ g.S.Source.faults l.source;
  out_later : g.W.Sink.faults l.fn.out ≤ g.W.Sink.faults l.out;
  cost : IsLarge l.fn.judge.monitor.shelf → Spends (judge_bound l.fn.judge.monitor) l.fn.judge.events l.judge.events l.fn.steps l.steps;
  idle : l.reader.given ≡ 0 → l.steps ≡ l.fn.steps;
}

abbrev pub decreases-pieces : goal.decreases-pieces
decreases-pieces g l = l.limit - l.taken
