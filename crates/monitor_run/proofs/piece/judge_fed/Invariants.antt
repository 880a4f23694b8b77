use Rattle.std.proofs.Common.{◌≡◌, ℕ, ◌-◌, ◌≤◌, Bool, List, Option}
use Rattle.bdd_ops.specs.Shelf.{IsLarge}
use Rattle.qtl_syntax.specs.Tree.{Text, Item}
use Rattle.monitor_run.specs.Judging.{judge_bound}
use Rattle.monitor_run.specs.Judging.{Spends}
use Rattle.monitor_run.specs.Reading.{IsFed, IsFedWithin, Reads}
use Rattle.monitor_run.specs.Standing.{IsReady, KeepsPlan}
use Rattle.run_model.specs.Job.{Job}
use Rattle.monitor_run.proofs.piece.judge_fed.Given as goal

-- some events were judged
abbrev pub invariant-records : goal.invariant-records
invariant-records g l = record {
  reads : (job : Job) (items : List Item) (all : Text) (left sent : Option Text) (given : Text) (ended : Bool) →
      Reads job items all left sent (g.W.Sink.written l.fn.out) given ended l.fn.judge l.fn.reader l.fn.output →
      Reads job items all left sent (g.W.Sink.written l.out) given ended l.judge l.reader l.output;
  within : IsFedWithin 281474976710656 l.reader l.judge.monitor.last_time;
  fed : (count : ℕ) → IsFed count l.fn.reader l.fn.judge.monitor.last_time → IsFed count l.reader l.judge.monitor.last_time;
  closed : l.reader.ended ≡ l.fn.reader.ended;
  events : l.judge.events ≡ l.reader.given;
  ready : IsReady l.judge;
  plan : KeepsPlan l.fn.judge l.judge;
  later : g.W.Sink.faults l.fn.out ≤ g.W.Sink.faults l.out;
  cost : IsLarge l.fn.judge.monitor.shelf → Spends (judge_bound l.fn.judge.monitor) l.fn.judge.events l.judge.events l.fn.steps l.steps;
  grown : l.fn.reader.given ≤ l.reader.given;
  idle : l.reader.given ≡ l.fn.reader.given → l.steps ≡ l.fn.steps;
}

-- no more events are given than bytes were fed
abbrev pub decreases-records : goal.decreases-records
decreases-records g l = 281474976710656 - l.reader.given
