use Rattle.std.proofs.Common.{◌+◌, ◌*◌}
use Rattle.bdd_ops.proofs.short.+few.Given as goal

-- the pairs that may be taken apart; the front comes before the parts
abbrev pub decreases-apply_to_few : goal.decreases-apply_to_few
decreases-apply_to_few g l = 2 * l.pairs.now + 1

abbrev pub decreases-apply_to_parts : goal.decreases-apply_to_parts
decreases-apply_to_parts g l = 2 * l.pairs.now
