use Rattle.std.proofs.Common.{rules}
use Rattle.bdd_ops.proofs.Whole.{inside_bounded}
use Rattle.bdd_ops.proofs.calls.apply_inside.Goals as goal

pub returns-clause-bounded : goal.returns-clause-bounded
returns-clause-bounded g c =
    inside_bounded c.args.op c.args.u c.args.v c.args.store.now c.store.inside.table c.apply_parts-made.new.table c.store.inside.cache c.apply_parts-made.new.cache c.args.steps.now
    c.apply_parts-made.new.steps c.apply_parts-made.result c.store.view_is c.live-nodes.ensures.shared (search rules) (search rules) c.held-pairs.ensures.sound c.apply_parts-made.ensures
