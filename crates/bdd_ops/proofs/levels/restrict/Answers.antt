use Rattle.bdd_ops.proofs.WholeLevel.{restricts, restrict_values}
use Rattle.bdd_ops.proofs.levels.restrict.Goals as goal

pub returns-clause-made : goal.returns-clause-made
returns-clause-made g c = restricts c.args.level c.args.bit c.args.h c.args.roots.now c.args.store.now.table c.change_level.new.store.table c.child.result c.change_level.result
    c.child.ensures c.change_level.ensures.made

pub returns-clause-values : goal.returns-clause-values
returns-clause-values g c = restrict_values c.args.level c.args.bit c.args.h c.args.store.now.table c.change_level.new.store.table c.change_level.result c.live-held.ensures.shared
    c.requires.valid (restricts c.args.level c.args.bit c.args.h c.args.roots.now c.args.store.now.table c.change_level.new.store.table c.child.result c.change_level.result c.child.ensures
    c.change_level.ensures.made).is
