use Rattle.std.proofs.Common.{◌≡◌}
use Rattle.subformulas.specs.declared.table.Kind.TheVariants as kind
use Rattle.node_table.specs.Table.{tree_of}
use Rattle.monitor_step.specs.Frame.{frame_of, setting_with}
use Rattle.monitor_step.proofs.Rows.Kinds.{previous_rows, only_previous}
use Rattle.monitor_step.proofs.temporal_rows.temporal_rows.Goals as goal

pub returns-in_default-clause-made : goal.returns-in_default-clause-made
returns-in_default-clause-made g c =
    let n = c.in_default in
    let prev : c.args.kind.now ≡ kind.Prev = only_previous c.args.kind.now c.requires.temporal n.not-Since n.not-Once n.not-Always n.not-Interval n.not-SinceAtMost n.not-SinceMoreThan n.not-OnceAtMost n.not-OnceMoreThan n.not-AlwaysAtMost n.not-AlwaysMoreThan in
    previous_rows (frame_of (setting_with c.args.plan.now c.args.frame.now.bits c.args.store.now.table.room) c.args.frame.now) c.args.kind.now
    (tree_of c.args.store.now.table c.args.children.right) _ c.args.store.now.table c.args.children.left c.args.children.memory prev c.live-held.ensures.shared c.requires.roots c.requires.left c.requires.memory
