use Rattle.std.proofs.Common.{length}
use Rattle.bdd_ops.proofs.literals.+cube_parts.Given as goal

abbrev pub decreases-cube_parts : goal.decreases-cube_parts
decreases-cube_parts l = length l.literals.now
