use Rattle.timed_bits.proofs.chain.+make_chain.Given as goal

abbrev pub decreases-make_chain : goal.decreases-make_chain
decreases-make_chain l = l.width
