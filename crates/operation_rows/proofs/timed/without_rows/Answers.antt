use Rattle.std.proofs.Common.{◌+◌, [], ◌∷◌, take, refl, sym, subst, arith, inl, inr}
use Rattle.node_tree.specs.Levels.{LevelsBelow}
use Rattle.node_table.specs.Table.{tree_of}
use Rattle.node_table.specs.Collects.{AllValid}
use Rattle.bdd_ops.specs.declared.op.Op.TheVariants.{Or, AndNot}
use Rattle.timed_bits.specs.Changes.{any_time, stamp}
use Rattle.timed_bits.specs.Entries.{IsAgeTree}
use Rattle.operation_rows.specs.Kinds.{applied}
use Rattle.operation_rows.specs.Lines.{EndsRows, stamped_rows, without_ages}
use Rattle.operation_rows.proofs.Lines.{valid_in, one_valid, stays_valid, stays_tree, end_err, end_more, without-ages}
use Rattle.operation_rows.proofs.timed.without_rows.Goals as goal

pub operate_row-requires-clause-letters : goal.operate_row-requires-clause-letters
operate_row-requires-clause-letters g c = one_valid c.args.store.now.table c.args.a c.requires.letter

pub operate_row-requires-clause-left : goal.operate_row-requires-clause-left
operate_row-requires-clause-left g c = inr (0, omega arith, refl)

pub operate_row-requires-clause-right : goal.operate_row-requires-clause-right
operate_row-requires-clause-right g c = inl c.requires.child

pub stamped_rows-requires-clause-roots : goal.stamped_rows-requires-clause-roots
stamped_rows-requires-clause-roots g c = subst (AllValid c.operate_row.new.store.table) (sym c.operate_row.ensures.roots) (stays_valid c.args.store.now.table c.operate_row.new.store.table (take c.args.done c.args.handles.now) c.operate_row.ensures.row.roots_stay)

pub stamped_rows-requires-clause-before : goal.stamped_rows-requires-clause-before
stamped_rows-requires-clause-before g c = subst (LevelsBelow c.args.block.first) (sym (stays_tree c.args.store.now.table c.operate_row.new.store.table (take c.args.done c.args.handles.now) c.args.f c.operate_row.ensures.row.roots_stay c.requires.child).1) c.requires.before

pub stamped_rows-requires-clause-ages : goal.stamped_rows-requires-clause-ages
stamped_rows-requires-clause-ages g c =
    let f = (stays_tree c.args.store.now.table c.operate_row.new.store.table (take c.args.done c.args.handles.now) c.args.f c.operate_row.ensures.row.roots_stay c.requires.child).1 in
    let valid = valid_in c.args.store.now.table (take c.args.done c.args.handles.now) c.args.f c.requires.roots c.requires.child in
    subst (λ t. IsAgeTree c.args.block.first c.args.block.bits (applied Or t (stamp c.args.block.first c.args.block.bits (tree_of c.operate_row.new.store.table c.args.f)))) (sym c.in-Ok.ensures.row.is)
    (subst (λ t. IsAgeTree c.args.block.first c.args.block.bits (applied Or (applied AndNot (tree_of c.args.store.now.table c.args.a) (tree_of c.args.store.now.table c.args.f)) (stamp c.args.block.first c.args.block.bits t))) (sym f)
    (without-ages c.args.block.first c.args.block.bits (tree_of c.args.store.now.table c.args.a) (tree_of c.args.store.now.table c.args.f) (c.live-held.ensures.shared.ordered c.args.f valid) (c.live-held.ensures.shared.reduced c.args.f valid) c.requires.before c.requires.ages))

pub returns-in-Ok-clause-made : goal.returns-in-Ok-clause-made
returns-in-Ok-clause-made g c =
    let f = (stays_tree c.args.store.now.table c.operate_row.new.store.table (take c.args.done c.args.handles.now) c.args.f c.operate_row.ensures.row.roots_stay c.requires.child).1 in
    let rest = subst (λ rs. EndsRows (c.args.number + 1) (stamped_rows c.args.block.first c.args.block.bits (tree_of c.operate_row.new.store.table c.in-Ok.c) (tree_of c.operate_row.new.store.table c.args.f)) (any_time c.args.block.first c.args.block.bits (applied Or (tree_of c.operate_row.new.store.table c.in-Ok.c) (stamp c.args.block.first c.args.block.bits (tree_of c.operate_row.new.store.table c.args.f)))) (applied Or (tree_of c.operate_row.new.store.table c.in-Ok.c) (stamp c.args.block.first c.args.block.bits (tree_of c.operate_row.new.store.table c.args.f))) rs c.operate_row.new.store.table c.stamped_rows.new.store.table c.stamped_rows.result) c.operate_row.ensures.roots c.stamped_rows.ensures.made in
    let child = subst (λ t. EndsRows (c.args.number + 1) (stamped_rows c.args.block.first c.args.block.bits (tree_of c.operate_row.new.store.table c.in-Ok.c) t) (any_time c.args.block.first c.args.block.bits (applied Or (tree_of c.operate_row.new.store.table c.in-Ok.c) (stamp c.args.block.first c.args.block.bits t))) (applied Or (tree_of c.operate_row.new.store.table c.in-Ok.c) (stamp c.args.block.first c.args.block.bits t)) (take c.args.done c.args.handles.now) c.operate_row.new.store.table c.stamped_rows.new.store.table c.stamped_rows.result) f rest in
    end_more c.args.number (applied AndNot (tree_of c.args.store.now.table c.args.a) (tree_of c.args.store.now.table c.args.f)) (take c.args.done c.args.handles.now) (c.args.a ∷ []) c.args.store.now.table c.operate_row.new.store.table c.in-Ok.c (stamped_rows c.args.block.first c.args.block.bits (applied AndNot (tree_of c.args.store.now.table c.args.a) (tree_of c.args.store.now.table c.args.f)) (tree_of c.args.store.now.table c.args.f)) (any_time c.args.block.first c.args.block.bits (without_ages c.args.block.first c.args.block.bits (tree_of c.args.store.now.table c.args.a) (tree_of c.args.store.now.table c.args.f))) (without_ages c.args.block.first c.args.block.bits (tree_of c.args.store.now.table c.args.a) (tree_of c.args.store.now.table c.args.f)) c.stamped_rows.new.store.table c.stamped_rows.result c.in-Ok.ensures.row
    (subst (λ t. EndsRows (c.args.number + 1) (stamped_rows c.args.block.first c.args.block.bits t (tree_of c.args.store.now.table c.args.f)) (any_time c.args.block.first c.args.block.bits (applied Or t (stamp c.args.block.first c.args.block.bits (tree_of c.args.store.now.table c.args.f)))) (applied Or t (stamp c.args.block.first c.args.block.bits (tree_of c.args.store.now.table c.args.f))) (take c.args.done c.args.handles.now) c.operate_row.new.store.table c.stamped_rows.new.store.table c.stamped_rows.result) c.in-Ok.ensures.row.is child)

pub returns-in-Err-clause-made : goal.returns-in-Err-clause-made
returns-in-Err-clause-made g c = end_err c.args.number (applied AndNot (tree_of c.args.store.now.table c.args.a) (tree_of c.args.store.now.table c.args.f)) (take c.args.done c.args.handles.now) (c.args.a ∷ []) c.args.store.now.table c.operate_row.new.store.table c.in-Err.full (stamped_rows c.args.block.first c.args.block.bits (applied AndNot (tree_of c.args.store.now.table c.args.a) (tree_of c.args.store.now.table c.args.f)) (tree_of c.args.store.now.table c.args.f)) (any_time c.args.block.first c.args.block.bits (without_ages c.args.block.first c.args.block.bits (tree_of c.args.store.now.table c.args.a) (tree_of c.args.store.now.table c.args.f))) (without_ages c.args.block.first c.args.block.bits (tree_of c.args.store.now.table c.args.a) (tree_of c.args.store.now.table c.args.f)) c.in-Err.ensures.row
