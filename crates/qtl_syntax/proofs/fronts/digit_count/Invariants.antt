use Rattle.std.proofs.Common.{◌≡◌, ◌+◌, length, drop}
use Rattle.qtl_syntax.specs.Cuts.{is_digit}
use Rattle.qtl_syntax.specs.Scan.{front_of}
use Rattle.qtl_syntax.proofs.fronts.digit_count.Given as goal

abbrev pub invariant-loop-i : goal.invariant-loop-i
invariant-loop-i l = l.i + length (front_of is_digit (drop l.i l.bytes)) ≡ length (front_of is_digit l.bytes)
