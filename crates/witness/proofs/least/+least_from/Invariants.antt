use Rattle.witness.proofs.least.+least_from.Given as goal

abbrev pub decreases-least_from : goal.decreases-least_from
decreases-least_from g a = a.bits
