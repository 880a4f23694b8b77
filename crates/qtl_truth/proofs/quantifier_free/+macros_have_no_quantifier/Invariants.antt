use Rattle.std.proofs.Common.{length}
use Rattle.qtl_truth.proofs.quantifier_free.+macros_have_no_quantifier.Given as goal

abbrev pub decreases-macros_have_no_quantifier : goal.decreases-macros_have_no_quantifier
decreases-macros_have_no_quantifier l = length l.before.now
