use Rattle.std.proofs.Common.{◌≡◌, take}
use Rattle.monitor_model.specs.State.{temporal_count}
use Rattle.monitor_step.proofs.remember.temporal_before.Given as goal

abbrev pub invariant-loop-k : goal.invariant-loop-k
invariant-loop-k l = l.count ≡ temporal_count (take l.k l.plan.subs)
