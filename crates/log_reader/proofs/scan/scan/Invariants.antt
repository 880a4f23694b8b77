use Rattle.std.proofs.Common.{◌≡◌, ◌≤◌}
use Rattle.std.specs.Prelude.{Some}
use Rattle.log_reader.specs.Places.{run_on}
use Rattle.log_reader.specs.State.{span}
use Rattle.log_reader.proofs.scan.scan.Given as goal

-- the bytes so far are the field's
abbrev pub invariant-loop-i : goal.invariant-loop-i
invariant-loop-i l = record {
  after : l.from ≤ l.i;
  run : run_on (Some l.fn.place) (span l.from l.i l.bytes) ≡ Some l.place;
}
