use Rattle.std.proofs.Common.{◌≡◌, ◌+◌, ◌≤◌, map, take}
use Rattle.monitor_run.specs.Judging.{witnesses_in}
use Rattle.monitor_run.specs.Standing.{row_of}
use Rattle.monitor_run.proofs.Judged.Writing.{first_bound}
use Rattle.monitor_run.proofs.judge.find_witnesses.Given as goal

-- the witnesses of the first properties were found
abbrev pub invariant-loop-p : goal.invariant-loop-p
invariant-loop-p g l = record {
  found : map (λ w. w.items) l.found.items ≡ witnesses_in (take l.p (row_of l.monitor));
  cost : l.steps ≤ l.fn.steps + first_bound l.monitor l.p;
}
