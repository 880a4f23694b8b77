use Rattle.std.proofs.Common.{◌≡◌, ◌+◌, length, drop}
use Rattle.qtl_syntax.specs.Scan.{is_tail, front_of}
use Rattle.qtl_syntax.proofs.fronts.tail_count.Given as goal

abbrev pub invariant-loop-i : goal.invariant-loop-i
invariant-loop-i l = l.i + length (front_of is_tail (drop l.i l.bytes)) ≡ length (front_of is_tail l.bytes)
