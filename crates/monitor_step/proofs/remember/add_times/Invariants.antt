use Rattle.std.proofs.Common.{◌≡◌, ◌++◌}
use Rattle.std.specs.Prelude.{replicate}
use Rattle.monitor_step.proofs.remember.add_times.Given as goal

abbrev pub invariant-loop : goal.invariant-loop
invariant-loop l = l.handles.items ≡ l.fn.handles.items ++ replicate l.counter l.h
