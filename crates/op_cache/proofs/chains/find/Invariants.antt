use Rattle.op_cache.specs.Chains.{ArePassed}
use Rattle.op_cache.proofs.chains.find.Given as goal

abbrev pub invariant-loop-link : goal.invariant-loop-link
invariant-loop-link g l = ArePassed l.entries l.window l.place l.link

abbrev pub decreases-loop-link : goal.decreases-loop-link
decreases-loop-link g l = l.link
