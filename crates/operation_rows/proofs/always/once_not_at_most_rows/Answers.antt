use Rattle.std.proofs.Common.{[], ◌∷◌, take, refl, sym, subst, inl}
use Rattle.std.specs.Prelude.{Err}
use Rattle.node_tree.specs.Levels.{LevelsBelow}
use Rattle.node_table.specs.Table.{tree_of}
use Rattle.timed_bits.specs.Changes.{any_time, age_drop}
use Rattle.timed_bits.specs.Entries.{IsAgeTree}
use Rattle.operation_rows.specs.Rows.{row}
use Rattle.operation_rows.specs.Always.{EndsWithin, within_rows, within_ages}
use Rattle.operation_rows.proofs.Lines.{stays_valid, stays_tree, end_err, end_more, ends_all, dropped-ages}
use Rattle.operation_rows.proofs.Negating.{told_two}
use Rattle.operation_rows.proofs.always.once_not_at_most_rows.Goals as goal

pub drop_row-requires-clause-operand : goal.drop_row-requires-clause-operand
drop_row-requires-clause-operand g c = inl c.requires.memory

pub within_rows-requires-clause-roots : goal.within_rows-requires-clause-roots
within_rows-requires-clause-roots g c = stays_valid c.args.store.now.table c.drop_row.new.store.table (take c.args.done c.args.handles.now) c.drop_row.ensures.row.roots_stay

pub within_rows-requires-clause-before : goal.within_rows-requires-clause-before
within_rows-requires-clause-before g c = subst (LevelsBelow c.args.block.first) (sym (stays_tree c.args.store.now.table c.drop_row.new.store.table (take c.args.done c.args.handles.now) c.args.f c.drop_row.ensures.row.roots_stay c.requires.child).1) c.requires.before

pub within_rows-requires-clause-ages : goal.within_rows-requires-clause-ages
within_rows-requires-clause-ages g c = subst (IsAgeTree c.args.block.first c.args.block.bits) (sym c.in-Ok.ensures.row.is) (dropped-ages c.args.block.first c.args.block.bits c.args.delta c.args.n (tree_of c.args.store.now.table c.args.m) c.requires.bound c.requires.ages)

pub returns-in-Ok-clause-made : goal.returns-in-Ok-clause-made
returns-in-Ok-clause-made g c =
    let a = age_drop c.args.block.first c.args.block.bits c.args.delta c.args.n (tree_of c.args.store.now.table c.args.m) in
    let e = within_ages c.args.block.first c.args.block.bits a (tree_of c.args.store.now.table c.args.f) in
    ends_all (row [] a ∷ within_rows c.args.block.first c.args.block.bits a (tree_of c.args.store.now.table c.args.f)) (any_time c.args.block.first c.args.block.bits e) e (take c.args.done c.args.handles.now) c.args.store.now.table c.within_rows.new.store.table c.within_rows.result c.requires.roots
    (end_more 1 a (take c.args.done c.args.handles.now) [] c.args.store.now.table c.drop_row.new.store.table c.in-Ok.a (within_rows c.args.block.first c.args.block.bits a (tree_of c.args.store.now.table c.args.f)) (any_time c.args.block.first c.args.block.bits e) e c.within_rows.new.store.table c.within_rows.result c.in-Ok.ensures.row
    (told_two (λ x y rs. EndsWithin 2 c.args.block.first c.args.block.bits (within_rows c.args.block.first c.args.block.bits x y) (within_ages c.args.block.first c.args.block.bits x y) rs c.drop_row.new.store.table c.within_rows.new.store.table c.within_rows.result) _ _ _ _ _ (take c.args.done c.args.handles.now) c.in-Ok.ensures.row.is (stays_tree c.args.store.now.table c.drop_row.new.store.table (take c.args.done c.args.handles.now) c.args.f c.drop_row.ensures.row.roots_stay c.requires.child).1 refl c.within_rows.ensures.made))

pub returns-in-Err-clause-made : goal.returns-in-Err-clause-made
returns-in-Err-clause-made g c =
    let a = age_drop c.args.block.first c.args.block.bits c.args.delta c.args.n (tree_of c.args.store.now.table c.args.m) in
    let e = within_ages c.args.block.first c.args.block.bits a (tree_of c.args.store.now.table c.args.f) in
    ends_all (row [] a ∷ within_rows c.args.block.first c.args.block.bits a (tree_of c.args.store.now.table c.args.f)) (any_time c.args.block.first c.args.block.bits e) e (take c.args.done c.args.handles.now) c.args.store.now.table c.drop_row.new.store.table (Err c.in-Err.full) c.requires.roots
    (end_err 1 a (take c.args.done c.args.handles.now) [] c.args.store.now.table c.drop_row.new.store.table c.in-Err.full (within_rows c.args.block.first c.args.block.bits a (tree_of c.args.store.now.table c.args.f)) (any_time c.args.block.first c.args.block.bits e) e c.in-Err.ensures.row)
