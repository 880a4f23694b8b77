use Rattle.std.proofs.Common.{◌≡◌, false, drop}
use Rattle.qtl_syntax.specs.Cuts.{past_gap}
use Rattle.qtl_syntax.proofs.fronts.gap_count.Given as goal

abbrev pub invariant-loop-i : goal.invariant-loop-i
invariant-loop-i l = past_gap false l.bytes ≡ past_gap l.in_comment (drop l.i l.bytes)
