use Rattle.std.proofs.Common.{[], ◌∷◌, take, refl, sym, subst, arith, inl, inr}
use Rattle.std.specs.Prelude.{not}
use Rattle.node_tree.specs.Levels.{LevelsBelow}
use Rattle.node_table.specs.Table.{tree_of}
use Rattle.node_table.specs.Collects.{AllValid}
use Rattle.bdd_ops.specs.declared.op.Op.TheVariants.{And}
use Rattle.bdd_ops.specs.Apply.{map_leaves}
use Rattle.timed_bits.specs.Changes.{any_time}
use Rattle.timed_bits.specs.Entries.{IsAgeTree}
use Rattle.operation_rows.specs.Kinds.{applied}
use Rattle.operation_rows.specs.Always.{EndsWithin, fresh_ages, not_rows, within_ages}
use Rattle.operation_rows.proofs.Lines.{valid_in, one_valid, stays_valid, stays_tree, end_err, end_more}
use Rattle.operation_rows.proofs.Negating.{of_two, told_two, never-ages}
use Rattle.operation_rows.proofs.always.within_rows.Goals as goal

pub operate_row-requires-clause-letters : goal.operate_row-requires-clause-letters
operate_row-requires-clause-letters g c = one_valid c.args.store.now.table c.args.a c.requires.letter

pub operate_row-requires-clause-left : goal.operate_row-requires-clause-left
operate_row-requires-clause-left g c = inr (0, omega arith, refl)

pub operate_row-requires-clause-right : goal.operate_row-requires-clause-right
operate_row-requires-clause-right g c = inl c.requires.child

pub not_rows-requires-clause-roots : goal.not_rows-requires-clause-roots
not_rows-requires-clause-roots g c = subst (AllValid c.operate_row.new.store.table) (sym c.operate_row.ensures.roots) (stays_valid c.args.store.now.table c.operate_row.new.store.table (take c.args.done c.args.handles.now) c.operate_row.ensures.row.roots_stay)

pub not_rows-requires-clause-before : goal.not_rows-requires-clause-before
not_rows-requires-clause-before g c = subst (LevelsBelow c.args.block.first) (sym (stays_tree c.args.store.now.table c.operate_row.new.store.table (take c.args.done c.args.handles.now) c.args.f c.operate_row.ensures.row.roots_stay c.requires.child).1) c.requires.before

pub not_rows-requires-clause-ages : goal.not_rows-requires-clause-ages
not_rows-requires-clause-ages g c =
    let valid = valid_in c.args.store.now.table (take c.args.done c.args.handles.now) c.args.f c.requires.roots c.requires.child in
    of_two (λ x y. IsAgeTree c.args.block.first c.args.block.bits (fresh_ages c.args.block.first c.args.block.bits x (map_leaves not y))) _ _ _ _ (sym c.in-Ok.ensures.row.is) (sym (stays_tree c.args.store.now.table c.operate_row.new.store.table (take c.args.done c.args.handles.now) c.args.f c.operate_row.ensures.row.roots_stay c.requires.child).1)
    (never-ages c.args.block.first c.args.block.bits (tree_of c.args.store.now.table c.args.a) (tree_of c.args.store.now.table c.args.f) (c.live-held.ensures.shared.ordered c.args.f valid) (c.live-held.ensures.shared.reduced c.args.f valid) c.requires.before c.requires.ages)

pub returns-in-Ok-clause-made : goal.returns-in-Ok-clause-made
returns-in-Ok-clause-made g c =
    end_more 2 (applied And (tree_of c.args.store.now.table c.args.a) (tree_of c.args.store.now.table c.args.f)) (take c.args.done c.args.handles.now) (c.args.a ∷ []) c.args.store.now.table c.operate_row.new.store.table c.in-Ok.c (not_rows c.args.block.first c.args.block.bits (applied And (tree_of c.args.store.now.table c.args.a) (tree_of c.args.store.now.table c.args.f)) (tree_of c.args.store.now.table c.args.f)) (any_time c.args.block.first c.args.block.bits (within_ages c.args.block.first c.args.block.bits (tree_of c.args.store.now.table c.args.a) (tree_of c.args.store.now.table c.args.f))) (within_ages c.args.block.first c.args.block.bits (tree_of c.args.store.now.table c.args.a) (tree_of c.args.store.now.table c.args.f)) c.not_rows.new.store.table c.not_rows.result c.in-Ok.ensures.row
    (told_two (λ x y rs. EndsWithin 3 c.args.block.first c.args.block.bits (not_rows c.args.block.first c.args.block.bits x y) (fresh_ages c.args.block.first c.args.block.bits x (map_leaves not y)) rs c.operate_row.new.store.table c.not_rows.new.store.table c.not_rows.result) _ _ _ _ _ _ c.in-Ok.ensures.row.is (stays_tree c.args.store.now.table c.operate_row.new.store.table (take c.args.done c.args.handles.now) c.args.f c.operate_row.ensures.row.roots_stay c.requires.child).1 c.operate_row.ensures.roots c.not_rows.ensures.made)

pub returns-in-Err-clause-made : goal.returns-in-Err-clause-made
returns-in-Err-clause-made g c = end_err 2 (applied And (tree_of c.args.store.now.table c.args.a) (tree_of c.args.store.now.table c.args.f)) (take c.args.done c.args.handles.now) (c.args.a ∷ []) c.args.store.now.table c.operate_row.new.store.table c.in-Err.full (not_rows c.args.block.first c.args.block.bits (applied And (tree_of c.args.store.now.table c.args.a) (tree_of c.args.store.now.table c.args.f)) (tree_of c.args.store.now.table c.args.f)) (any_time c.args.block.first c.args.block.bits (within_ages c.args.block.first c.args.block.bits (tree_of c.args.store.now.table c.args.a) (tree_of c.args.store.now.table c.args.f))) (within_ages c.args.block.first c.args.block.bits (tree_of c.args.store.now.table c.args.a) (tree_of c.args.store.now.table c.args.f)) c.in-Err.ensures.row
