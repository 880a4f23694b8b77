use Rattle.bdd_ops.proofs.Walks.{walk_values}
use Rattle.bdd_ops.proofs.reading.walk.Goals as goal

pub returns-clause-values : goal.returns-clause-values
returns-clause-values g c = walk_values c.args.table.now c.args.h c.walk_from.result c.args.block.bits c.args.block.first c.args.code c.walk_from.ensures.tree c.requires.below
