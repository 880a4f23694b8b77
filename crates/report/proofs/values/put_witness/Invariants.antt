use Rattle.std.proofs.Common.{◌≤◌, take}
use Rattle.report.specs.Lines.{witness_text}
use Rattle.report.specs.Passing.{Passes}
use Rattle.report.proofs.values.put_witness.Given as goal

-- the variables so far have passed
abbrev pub invariant-loop-shown : goal.invariant-loop-shown
invariant-loop-shown g l = record {
  passed : Passes (g.W.Sink.written l.fn.out) (g.W.Sink.written l.out) l.fn.output l.output (witness_text (take l.shown-index l.witness));
  later : g.W.Sink.faults l.fn.out ≤ g.W.Sink.faults l.out;
}
