use Rattle.std.proofs.Common.{◌≤◌, take, drop}
use Rattle.std.specs.List.{AllByRecursion}
use Rattle.subformulas.specs.NeedList.{AreByVariable}
use Rattle.monitor_step.proofs.serve.count_before.Given as goal

abbrev pub invariant-loop-place : goal.invariant-loop-place
invariant-loop-place l = record {
  front : AllByRecursion (λ n. n.variable ≤ l.variable) (take l.place l.entries);
  order : AreByVariable (drop l.place l.entries);
}
