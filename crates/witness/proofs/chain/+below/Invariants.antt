use Rattle.witness.proofs.chain.+below.Given as goal

abbrev pub decreases-below : goal.decreases-below
decreases-below a = a.k
