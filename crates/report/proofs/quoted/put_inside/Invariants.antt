use Rattle.std.proofs.Common.{◌≡◌, ◌≤◌, ◌++◌, take, drop}
use Rattle.std.specs.List.{flat_map}
use Rattle.report.specs.Lines.{quoted_byte}
use Rattle.report.specs.Passing.{Passes}
use Rattle.report.proofs.quoted.put_inside.Given as goal

-- what stands before the run of plain bytes has passed
abbrev pub invariant-loop-at : goal.invariant-loop-at
invariant-loop-at g l = record {
  passed : Passes (g.W.Sink.written l.fn.out) (g.W.Sink.written l.out) l.fn.output l.output (flat_map quoted_byte (take l.from l.text));
  run : flat_map quoted_byte (take l.from l.text) ++ drop l.from (take l.at l.text) ≡ flat_map quoted_byte (take l.at l.text);
  within : l.from ≤ l.at;
  later : g.W.Sink.faults l.fn.out ≤ g.W.Sink.faults l.out;
}
