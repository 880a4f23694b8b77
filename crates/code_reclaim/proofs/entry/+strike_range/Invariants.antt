use Rattle.code_reclaim.proofs.entry.+strike_range.Given as goal

abbrev pub decreases-strike_range : goal.decreases-strike_range
decreases-strike_range g l = l.bits
