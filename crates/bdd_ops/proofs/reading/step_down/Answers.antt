use Rattle.bdd_ops.proofs.Walks.{down_other}
use Rattle.bdd_ops.proofs.reading.step_down.Goals as goal

pub returns-in_default-at-clause-tree : goal.returns-in_default-at-clause-tree
returns-in_default-at-clause-tree g c =
    down_other c.args.table.now c.args.h c.args.level c.in_Node-at.at c.in_Node-at.low c.in_Node-at.high c.args.bit c.in_Node-at.ensures.tells c.if-at-level.false c.requires.below
    (c.branch-at.ensures.shared.reduced c.args.h c.requires.valid)
