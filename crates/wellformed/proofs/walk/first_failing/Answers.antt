use Rattle.std.proofs.Common.{sym, ◌∙◌}
use Rattle.wellformed.specs.Walk.{pass_of}
use Rattle.wellformed.proofs.ItemSteps.{next_item}
use Rattle.wellformed.proofs.walk.first_failing.Goals as goal

pub loop-m-preserved : goal.loop-m-preserved
loop-m-preserved c =
    next_item (pass_of c.args.test) c.args.items.now c.loop-m.m _ c.loop-m-test.true (sym c.first_of_item.ensures ∙ c.in_default.is) c.loop-m.invariant
