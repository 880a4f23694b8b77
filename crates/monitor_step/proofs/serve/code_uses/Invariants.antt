-- The uses before this one have their codes, within the levels.
use Rattle.std.proofs.Common.{◌≡◌, ◌≤◌, take, length}
use Rattle.std.specs.Prelude.{vec_capacity}
use Rattle.std.specs.List.{All}
use Rattle.bdd_ops.specs.Codes.{HasLevels}
use Rattle.monitor_step.specs.Coded.{IsCoding}
use Rattle.monitor_step.proofs.serve.code_uses.Given as goal

abbrev pub invariant-loop-one : goal.invariant-loop-one
invariant-loop-one l = record {
  coding : IsCoding l.bits l.served (take l.one-index l.uses) l.coded.items;
  levels : All HasLevels l.coded.items;
  count : length l.coded.items ≡ l.one-index;
  room : vec_capacity l.fn.coded ≤ vec_capacity l.coded;
}
