use Rattle.std.proofs.Common.{◌∙◌, sym, subst}
use Rattle.node_table.specs.Table.{IsValid}
use Rattle.bdd_ops.specs.Level.{at_level, merged}
use Rattle.bdd_ops.proofs.WholeLevel.{same_first, first_made, again_made, again_none}
use Rattle.bdd_ops.proofs.levels.change_level.Goals as goal

pub level_inside-requires-clause-valid : goal.level_inside-requires-clause-valid
level_inside-requires-clause-valid g c =
    subst (λ t. IsValid t c.index-operands-0.result) (sym c.forget.ensures.table)
    (subst (IsValid c.make_ready.new.self.table) (sym (c.index-operands-0.is ∙ same_first c.args.operands.now c.index-operands-0.result c.requires.some)) (c.make_ready.ensures.operands 0
    c.requires.some).0)

pub returns-in-Ok-clause-made : goal.returns-in-Ok-clause-made
returns-in-Ok-clause-made g c = first_made (at_level (merged c.args.merge) c.args.level) c.args.operands.now c.args.roots.now c.requires.some c.index-operands-0.result (c.index-operands-0.is
    ∙ same_first c.args.operands.now c.index-operands-0.result c.requires.some) c.args.store.now.table c.make_ready.new.self.table c.make_ready.ensures.nodes c.make_ready.ensures.operands
    c.make_ready.ensures.roots c.forget.new.self.table c.forget.ensures.table c.level_inside.new.store.table c.in-Ok.made c.in-Ok.ensures.changes.made

pub level_inside-requires-2-clause-valid : goal.level_inside-requires-2-clause-valid
level_inside-requires-2-clause-valid g c = subst (IsValid c.tidy.new.self.table) (sym (c.index-operands-0.is ∙ same_first c.args.operands.now c.index-operands-0.result c.requires.some))
    (c.tidy.ensures.collected.more_stay 0 c.requires.some)

pub returns-in-Ok-level_inside-clause-made : goal.returns-in-Ok-level_inside-clause-made
returns-in-Ok-level_inside-clause-made g c = again_made (at_level (merged c.args.merge) c.args.level) c.args.operands.now c.args.roots.now c.requires.some c.index-operands-0.result
    (c.index-operands-0.is ∙ same_first c.args.operands.now c.index-operands-0.result c.requires.some) c.args.store.now.table c.make_ready.new.self.table c.make_ready.ensures.nodes
    c.make_ready.ensures.operands c.make_ready.ensures.roots c.forget.new.self.table c.forget.ensures.table c.level_inside.new.store.table c.tidy.new.self.table
    c.level_inside-2.new.store.table c.level_inside.ensures.changes.made.grows.keeps c.tidy.ensures.collected c.in-Ok-level_inside.made c.in-Ok-level_inside.ensures.changes.made

pub returns-in-Err-clause-made : goal.returns-in-Err-clause-made
returns-in-Err-clause-made g c = again_none (at_level (merged c.args.merge) c.args.level) c.args.operands.now c.args.roots.now c.requires.some c.index-operands-0.result
    (c.index-operands-0.is ∙ same_first c.args.operands.now c.index-operands-0.result c.requires.some) c.args.store.now.table c.make_ready.new.self.table c.make_ready.ensures.nodes
    c.make_ready.ensures.operands c.make_ready.ensures.roots c.forget.new.self.table c.forget.ensures.table c.level_inside.new.store.table c.tidy.new.self.table
    c.level_inside-2.new.store.table c.level_inside.ensures.changes.made.grows.keeps c.tidy.ensures.collected _ c.in-Err.field-0 c.in-Err.ensures.changes.made
