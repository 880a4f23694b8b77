use Rattle.std.proofs.Common.{◌≡◌, ◌++◌, take}
use Rattle.std.specs.Prelude.{drop}
use Rattle.monitor_step.proofs.remember.remember.Given as goal

abbrev pub invariant-loop-i : goal.invariant-loop-i
invariant-loop-i l = l.handles ≡ take l.i (drop l.remembered l.fn.handles) ++ drop l.i l.fn.handles
