use Rattle.std.proofs.Common.{arith}
use Rattle.code_reclaim.proofs.tests.two_codes.Goals as goal

pub apply-requires-clause-left : goal.apply-requires-clause-left
apply-requires-clause-left g c = (c.cube-2.ensures.made.roots_stay 0 (omega arith)).0
