use Rattle.std.proofs.Common.{◌≤◌, map, take}
use Rattle.std.specs.List.{concat}
use Rattle.report.specs.Passing.{Passes}
use Rattle.report.proofs.output.Output.put_parts.Given as goal

-- the parts so far have passed
abbrev pub invariant-loop-part : goal.invariant-loop-part
invariant-loop-part g l = record {
  passed : Passes (g.W.Sink.written l.fn.out) (g.W.Sink.written l.out) l.fn.self l.self (concat (map (λ p. p.now) (take l.part-index l.parts)));
  later : g.W.Sink.faults l.fn.out ≤ g.W.Sink.faults l.out;
}
