use Rattle.std.proofs.Common.{[], ◌∷◌, take, sym, subst, inl}
use Rattle.std.specs.Prelude.{Err}
use Rattle.node_tree.specs.Levels.{LevelsBelow}
use Rattle.node_table.specs.Table.{tree_of}
use Rattle.timed_bits.specs.Changes.{any_time, age_drop}
use Rattle.timed_bits.specs.Entries.{IsAgeTree}
use Rattle.operation_rows.specs.Rows.{row}
use Rattle.operation_rows.specs.Lines.{EndsRows, without_rows, without_ages}
use Rattle.operation_rows.proofs.Lines.{stays_valid, stays_tree, end_err, end_more, ends_all, dropped-ages}
use Rattle.operation_rows.proofs.timed.once_at_most_rows.Goals as goal

pub drop_row-requires-clause-operand : goal.drop_row-requires-clause-operand
drop_row-requires-clause-operand g c = inl c.requires.memory

pub without_rows-requires-clause-roots : goal.without_rows-requires-clause-roots
without_rows-requires-clause-roots g c = stays_valid c.args.store.now.table c.drop_row.new.store.table (take c.args.done c.args.handles.now) c.drop_row.ensures.row.roots_stay

pub without_rows-requires-clause-before : goal.without_rows-requires-clause-before
without_rows-requires-clause-before g c = subst (LevelsBelow c.args.block.first) (sym (stays_tree c.args.store.now.table c.drop_row.new.store.table (take c.args.done c.args.handles.now) c.args.f c.drop_row.ensures.row.roots_stay c.requires.child).1) c.requires.before

pub without_rows-requires-clause-ages : goal.without_rows-requires-clause-ages
without_rows-requires-clause-ages g c = subst (IsAgeTree c.args.block.first c.args.block.bits) (sym c.in-Ok.ensures.row.is) (dropped-ages c.args.block.first c.args.block.bits c.args.delta c.args.n (tree_of c.args.store.now.table c.args.m) c.requires.bound c.requires.ages)

pub returns-in-Ok-clause-made : goal.returns-in-Ok-clause-made
returns-in-Ok-clause-made g c =
    let f = (stays_tree c.args.store.now.table c.drop_row.new.store.table (take c.args.done c.args.handles.now) c.args.f c.drop_row.ensures.row.roots_stay c.requires.child).1 in
    let child = subst (λ t. EndsRows 2 (without_rows c.args.block.first c.args.block.bits (tree_of c.drop_row.new.store.table c.in-Ok.a) t) (any_time c.args.block.first c.args.block.bits (without_ages c.args.block.first c.args.block.bits (tree_of c.drop_row.new.store.table c.in-Ok.a) t)) (without_ages c.args.block.first c.args.block.bits (tree_of c.drop_row.new.store.table c.in-Ok.a) t) (take c.args.done c.args.handles.now) c.drop_row.new.store.table c.without_rows.new.store.table c.without_rows.result) f c.without_rows.ensures.made in
    ends_all (row [] (age_drop c.args.block.first c.args.block.bits c.args.delta c.args.n (tree_of c.args.store.now.table c.args.m)) ∷ without_rows c.args.block.first c.args.block.bits (age_drop c.args.block.first c.args.block.bits c.args.delta c.args.n (tree_of c.args.store.now.table c.args.m)) (tree_of c.args.store.now.table c.args.f)) (any_time c.args.block.first c.args.block.bits (without_ages c.args.block.first c.args.block.bits (age_drop c.args.block.first c.args.block.bits c.args.delta c.args.n (tree_of c.args.store.now.table c.args.m)) (tree_of c.args.store.now.table c.args.f))) (without_ages c.args.block.first c.args.block.bits (age_drop c.args.block.first c.args.block.bits c.args.delta c.args.n (tree_of c.args.store.now.table c.args.m)) (tree_of c.args.store.now.table c.args.f)) (take c.args.done c.args.handles.now) c.args.store.now.table c.without_rows.new.store.table c.without_rows.result c.requires.roots
    (end_more 1 (age_drop c.args.block.first c.args.block.bits c.args.delta c.args.n (tree_of c.args.store.now.table c.args.m)) (take c.args.done c.args.handles.now) [] c.args.store.now.table c.drop_row.new.store.table c.in-Ok.a (without_rows c.args.block.first c.args.block.bits (age_drop c.args.block.first c.args.block.bits c.args.delta c.args.n (tree_of c.args.store.now.table c.args.m)) (tree_of c.args.store.now.table c.args.f)) (any_time c.args.block.first c.args.block.bits (without_ages c.args.block.first c.args.block.bits (age_drop c.args.block.first c.args.block.bits c.args.delta c.args.n (tree_of c.args.store.now.table c.args.m)) (tree_of c.args.store.now.table c.args.f))) (without_ages c.args.block.first c.args.block.bits (age_drop c.args.block.first c.args.block.bits c.args.delta c.args.n (tree_of c.args.store.now.table c.args.m)) (tree_of c.args.store.now.table c.args.f)) c.without_rows.new.store.table c.without_rows.result c.in-Ok.ensures.row
    (subst (λ t. EndsRows 2 (without_rows c.args.block.first c.args.block.bits t (tree_of c.args.store.now.table c.args.f)) (any_time c.args.block.first c.args.block.bits (without_ages c.args.block.first c.args.block.bits t (tree_of c.args.store.now.table c.args.f))) (without_ages c.args.block.first c.args.block.bits t (tree_of c.args.store.now.table c.args.f)) (take c.args.done c.args.handles.now) c.drop_row.new.store.table c.without_rows.new.store.table c.without_rows.result) c.in-Ok.ensures.row.is child))

pub returns-in-Err-clause-made : goal.returns-in-Err-clause-made
returns-in-Err-clause-made g c =
    ends_all (row [] (age_drop c.args.block.first c.args.block.bits c.args.delta c.args.n (tree_of c.args.store.now.table c.args.m)) ∷ without_rows c.args.block.first c.args.block.bits (age_drop c.args.block.first c.args.block.bits c.args.delta c.args.n (tree_of c.args.store.now.table c.args.m)) (tree_of c.args.store.now.table c.args.f)) (any_time c.args.block.first c.args.block.bits (without_ages c.args.block.first c.args.block.bits (age_drop c.args.block.first c.args.block.bits c.args.delta c.args.n (tree_of c.args.store.now.table c.args.m)) (tree_of c.args.store.now.table c.args.f))) (without_ages c.args.block.first c.args.block.bits (age_drop c.args.block.first c.args.block.bits c.args.delta c.args.n (tree_of c.args.store.now.table c.args.m)) (tree_of c.args.store.now.table c.args.f)) (take c.args.done c.args.handles.now) c.args.store.now.table c.drop_row.new.store.table (Err c.in-Err.full) c.requires.roots
    (end_err 1 (age_drop c.args.block.first c.args.block.bits c.args.delta c.args.n (tree_of c.args.store.now.table c.args.m)) (take c.args.done c.args.handles.now) [] c.args.store.now.table c.drop_row.new.store.table c.in-Err.full (without_rows c.args.block.first c.args.block.bits (age_drop c.args.block.first c.args.block.bits c.args.delta c.args.n (tree_of c.args.store.now.table c.args.m)) (tree_of c.args.store.now.table c.args.f)) (any_time c.args.block.first c.args.block.bits (without_ages c.args.block.first c.args.block.bits (age_drop c.args.block.first c.args.block.bits c.args.delta c.args.n (tree_of c.args.store.now.table c.args.m)) (tree_of c.args.store.now.table c.args.f))) (without_ages c.args.block.first c.args.block.bits (age_drop c.args.block.first c.args.block.bits c.args.delta c.args.n (tree_of c.args.store.now.table c.args.m)) (tree_of c.args.store.now.table c.args.f)) c.in-Err.ensures.row)
