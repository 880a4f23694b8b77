use Rattle.std.proofs.Common.{rules}
use Rattle.bdd_ops.specs.Level.{at_level, merged, merge_number}
use Rattle.bdd_ops.proofs.WholeLevel.{nothing_wrong, nothing_remembered, level_bounded, level_closely}
use Rattle.bdd_ops.proofs.levels.level_inside.Goals as goal

pub level_parts-made-requires-clause-sound : goal.level_parts-made-requires-clause-sound
level_parts-made-requires-clause-sound g c = nothing_wrong c.args.store.now c.store.inside.table c.store.inside.cache c.store.view_is c.requires.empty

pub level_parts-made-requires-clause-remembers : goal.level_parts-made-requires-clause-remembers
level_parts-made-requires-clause-remembers g c = nothing_remembered (at_level (merged c.args.merge) c.args.level) (merge_number c.args.merge) c.args.store.now c.store.inside.table
    c.store.inside.cache c.store.view_is c.requires.empty

pub returns-clause-bounded : goal.returns-clause-bounded
returns-clause-bounded g c =
    level_bounded c.args.merge c.args.level c.args.h c.args.store.now c.store.inside.table c.level_parts-made.new.table c.store.inside.cache c.level_parts-made.new.cache c.args.steps.now
    c.level_parts-made.new.steps c.level_parts-made.result c.store.view_is c.requires.empty c.live-nodes.ensures.shared (search rules) c.held-pairs.ensures.sound c.level_parts-made.ensures

pub returns-clause-closely : goal.returns-clause-closely
returns-clause-closely g c =
    level_closely c.args.merge c.args.level c.args.h c.args.store.now c.store.inside.table c.level_parts-made.new.table c.store.inside.cache c.level_parts-made.new.cache c.args.steps.now
    c.level_parts-made.new.steps c.level_parts-made.result c.store.view_is c.requires.empty c.live-nodes.ensures.shared (search rules) c.held-pairs.ensures.sound c.level_parts-made.ensures
