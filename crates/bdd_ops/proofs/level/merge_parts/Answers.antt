use Rattle.std.proofs.Common.{sym, ap}
use Rattle.node_table.specs.Table.{tree_of}
use Rattle.bdd_ops.specs.Level.{merged}
use Rattle.bdd_ops.proofs.Descending.{takes_child}
use Rattle.bdd_ops.proofs.level.merge_parts.Goals as goal

pub returns-in-Low : goal.returns-in-Low
returns-in-Low g c =
    takes_child c.args.merge c.args.low c.args.high c.args.low c.args.table.now c.args.cache.now c.args.steps.now c.live-held.ensures.shared c.requires.sound c.requires.low
    (sym (ap (λ k. merged k (tree_of c.args.table.now c.args.low) (tree_of c.args.table.now c.args.high)) c.in-Low.is))

pub returns-in-High : goal.returns-in-High
returns-in-High g c =
    takes_child c.args.merge c.args.low c.args.high c.args.high c.args.table.now c.args.cache.now c.args.steps.now c.live-held.ensures.shared c.requires.sound c.requires.high
    (sym (ap (λ k. merged k (tree_of c.args.table.now c.args.low) (tree_of c.args.table.now c.args.high)) c.in-High.is))
