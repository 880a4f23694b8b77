use Rattle.std.proofs.Common.{◌≤◌}
use Rattle.std.specs.Prelude.{All}
use Rattle.monitor_run.proofs.tests.pieces_of.Given as goal

abbrev pub invariant-loop : goal.invariant-loop
invariant-loop l = All (λ n. 1 ≤ n) l.pieces.items
