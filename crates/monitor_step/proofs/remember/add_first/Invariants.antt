use Rattle.std.proofs.Common.{◌≡◌, ◌++◌, take}
use Rattle.monitor_step.specs.Handles.{first_handles}
use Rattle.monitor_step.proofs.remember.add_first.Given as goal

abbrev pub invariant-loop-k : goal.invariant-loop-k
invariant-loop-k l = l.handles.items ≡ l.fn.handles.items ++ first_handles l.zero l.one (take l.k l.plan.subs)
