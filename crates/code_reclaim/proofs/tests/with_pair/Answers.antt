use Rattle.std.proofs.Common.{arith}
use Rattle.code_reclaim.proofs.tests.with_pair.Goals as goal

pub apply-requires-clause-left : goal.apply-requires-clause-left
apply-requires-clause-left g c = (c.cube.ensures.made.roots_stay 0 (omega arith)).0
