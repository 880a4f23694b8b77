use Rattle.timed_bits.proofs.chain.+read_chain.Given as goal

abbrev pub decreases-read_chain : goal.decreases-read_chain
decreases-read_chain g l = l.width
