use Rattle.std.proofs.Common.{◌+◌, ◌*◌}
use Rattle.wellformed.specs.CoreTree.{core_of}
use Rattle.wellformed.specs.Sound.{nodes}
use Rattle.monitor_tests.proofs.slow_truth.+slow_truth.Given as goal

abbrev pub decreases-truths : goal.decreases-truths
decreases-truths l = 2 * nodes (core_of l.formula.now)

abbrev pub decreases-unary : goal.decreases-unary
decreases-unary l = 2 * nodes (core_of l.formula.now) + 1

abbrev pub decreases-over_texts : goal.decreases-over_texts
decreases-over_texts l = 2 * nodes (core_of l.formula.now) + 1

abbrev pub decreases-binary : goal.decreases-binary
decreases-binary l = 2 * (nodes (core_of l.f.now) + nodes (core_of l.g.now)) + 1
