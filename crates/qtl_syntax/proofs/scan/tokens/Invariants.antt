use Rattle.std.proofs.Common.{◌≤◌, length}
use Rattle.qtl_syntax.proofs.Once.{Reached}
use Rattle.qtl_syntax.proofs.scan.tokens.Given as goal

abbrev pub invariant-loop-rest : goal.invariant-loop-rest
invariant-loop-rest l = record { reached : Reached l.text l.all l.rest; inside : length l.rest ≤ length l.text }

abbrev pub decreases-loop-rest : goal.decreases-loop-rest
decreases-loop-rest l = length l.rest
