use Rattle.witness.proofs.chain.+show_chain.Given as goal

abbrev pub decreases-show_chain : goal.decreases-show_chain
decreases-show_chain g a = a.k
