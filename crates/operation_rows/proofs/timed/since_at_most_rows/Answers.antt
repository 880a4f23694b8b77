use Rattle.std.proofs.Common.{[], ◌∷◌, take, sym, subst, inl}
use Rattle.std.specs.Prelude.{Err}
use Rattle.node_tree.specs.Levels.{LevelsBelow}
use Rattle.node_table.specs.Table.{tree_of}
use Rattle.timed_bits.specs.Changes.{any_time, age_drop}
use Rattle.timed_bits.specs.Entries.{IsAgeTree}
use Rattle.operation_rows.specs.Rows.{row}
use Rattle.operation_rows.specs.Lines.{EndsRows, since_rows, since_ages}
use Rattle.operation_rows.proofs.Lines.{stays_valid, stays_tree, end_err, end_more, ends_all, dropped-ages}
use Rattle.operation_rows.proofs.timed.since_at_most_rows.Goals as goal

pub drop_row-requires-clause-operand : goal.drop_row-requires-clause-operand
drop_row-requires-clause-operand g c = inl c.requires.memory

pub since_after_drop-requires-clause-roots : goal.since_after_drop-requires-clause-roots
since_after_drop-requires-clause-roots g c = stays_valid c.args.store.now.table c.drop_row.new.store.table (take c.args.done c.args.handles.now) c.drop_row.ensures.row.roots_stay

pub since_after_drop-requires-clause-before_left : goal.since_after_drop-requires-clause-before_left
since_after_drop-requires-clause-before_left g c = subst (LevelsBelow c.args.block.first) (sym (stays_tree c.args.store.now.table c.drop_row.new.store.table (take c.args.done c.args.handles.now) c.args.f c.drop_row.ensures.row.roots_stay c.requires.left).1) c.requires.before_left

pub since_after_drop-requires-clause-before_right : goal.since_after_drop-requires-clause-before_right
since_after_drop-requires-clause-before_right g c = subst (LevelsBelow c.args.block.first) (sym (stays_tree c.args.store.now.table c.drop_row.new.store.table (take c.args.done c.args.handles.now) c.args.g c.drop_row.ensures.row.roots_stay c.requires.right).1) c.requires.before_right

pub since_after_drop-requires-clause-ages : goal.since_after_drop-requires-clause-ages
since_after_drop-requires-clause-ages g c = subst (IsAgeTree c.args.block.first c.args.block.bits) (sym c.in-Ok.ensures.row.is) (dropped-ages c.args.block.first c.args.block.bits c.args.delta c.args.n (tree_of c.args.store.now.table c.args.m) c.requires.bound c.requires.ages)

pub returns-in-Ok-clause-made : goal.returns-in-Ok-clause-made
returns-in-Ok-clause-made g c =
    let left = subst (λ t. EndsRows 2 (since_rows c.args.block.first c.args.block.bits (tree_of c.drop_row.new.store.table c.in-Ok.a) t (tree_of c.drop_row.new.store.table c.args.g)) (any_time c.args.block.first c.args.block.bits (since_ages c.args.block.first c.args.block.bits (tree_of c.drop_row.new.store.table c.in-Ok.a) t (tree_of c.drop_row.new.store.table c.args.g))) (since_ages c.args.block.first c.args.block.bits (tree_of c.drop_row.new.store.table c.in-Ok.a) t (tree_of c.drop_row.new.store.table c.args.g)) (take c.args.done c.args.handles.now) c.drop_row.new.store.table c.since_after_drop.new.store.table c.since_after_drop.result) (stays_tree c.args.store.now.table c.drop_row.new.store.table (take c.args.done c.args.handles.now) c.args.f c.drop_row.ensures.row.roots_stay c.requires.left).1 c.since_after_drop.ensures.made in
    let right = subst (λ t. EndsRows 2 (since_rows c.args.block.first c.args.block.bits (tree_of c.drop_row.new.store.table c.in-Ok.a) (tree_of c.args.store.now.table c.args.f) t) (any_time c.args.block.first c.args.block.bits (since_ages c.args.block.first c.args.block.bits (tree_of c.drop_row.new.store.table c.in-Ok.a) (tree_of c.args.store.now.table c.args.f) t)) (since_ages c.args.block.first c.args.block.bits (tree_of c.drop_row.new.store.table c.in-Ok.a) (tree_of c.args.store.now.table c.args.f) t) (take c.args.done c.args.handles.now) c.drop_row.new.store.table c.since_after_drop.new.store.table c.since_after_drop.result) (stays_tree c.args.store.now.table c.drop_row.new.store.table (take c.args.done c.args.handles.now) c.args.g c.drop_row.ensures.row.roots_stay c.requires.right).1 left in
    ends_all (row [] (age_drop c.args.block.first c.args.block.bits c.args.delta c.args.n (tree_of c.args.store.now.table c.args.m)) ∷ since_rows c.args.block.first c.args.block.bits (age_drop c.args.block.first c.args.block.bits c.args.delta c.args.n (tree_of c.args.store.now.table c.args.m)) (tree_of c.args.store.now.table c.args.f) (tree_of c.args.store.now.table c.args.g)) (any_time c.args.block.first c.args.block.bits (since_ages c.args.block.first c.args.block.bits (age_drop c.args.block.first c.args.block.bits c.args.delta c.args.n (tree_of c.args.store.now.table c.args.m)) (tree_of c.args.store.now.table c.args.f) (tree_of c.args.store.now.table c.args.g))) (since_ages c.args.block.first c.args.block.bits (age_drop c.args.block.first c.args.block.bits c.args.delta c.args.n (tree_of c.args.store.now.table c.args.m)) (tree_of c.args.store.now.table c.args.f) (tree_of c.args.store.now.table c.args.g)) (take c.args.done c.args.handles.now) c.args.store.now.table c.since_after_drop.new.store.table c.since_after_drop.result c.requires.roots
    (end_more 1 (age_drop c.args.block.first c.args.block.bits c.args.delta c.args.n (tree_of c.args.store.now.table c.args.m)) (take c.args.done c.args.handles.now) [] c.args.store.now.table c.drop_row.new.store.table c.in-Ok.a (since_rows c.args.block.first c.args.block.bits (age_drop c.args.block.first c.args.block.bits c.args.delta c.args.n (tree_of c.args.store.now.table c.args.m)) (tree_of c.args.store.now.table c.args.f) (tree_of c.args.store.now.table c.args.g)) (any_time c.args.block.first c.args.block.bits (since_ages c.args.block.first c.args.block.bits (age_drop c.args.block.first c.args.block.bits c.args.delta c.args.n (tree_of c.args.store.now.table c.args.m)) (tree_of c.args.store.now.table c.args.f) (tree_of c.args.store.now.table c.args.g))) (since_ages c.args.block.first c.args.block.bits (age_drop c.args.block.first c.args.block.bits c.args.delta c.args.n (tree_of c.args.store.now.table c.args.m)) (tree_of c.args.store.now.table c.args.f) (tree_of c.args.store.now.table c.args.g)) c.since_after_drop.new.store.table c.since_after_drop.result c.in-Ok.ensures.row
    (subst (λ t. EndsRows 2 (since_rows c.args.block.first c.args.block.bits t (tree_of c.args.store.now.table c.args.f) (tree_of c.args.store.now.table c.args.g)) (any_time c.args.block.first c.args.block.bits (since_ages c.args.block.first c.args.block.bits t (tree_of c.args.store.now.table c.args.f) (tree_of c.args.store.now.table c.args.g))) (since_ages c.args.block.first c.args.block.bits t (tree_of c.args.store.now.table c.args.f) (tree_of c.args.store.now.table c.args.g)) (take c.args.done c.args.handles.now) c.drop_row.new.store.table c.since_after_drop.new.store.table c.since_after_drop.result) c.in-Ok.ensures.row.is right))

pub returns-in-Err-clause-made : goal.returns-in-Err-clause-made
returns-in-Err-clause-made g c =
    ends_all (row [] (age_drop c.args.block.first c.args.block.bits c.args.delta c.args.n (tree_of c.args.store.now.table c.args.m)) ∷ since_rows c.args.block.first c.args.block.bits (age_drop c.args.block.first c.args.block.bits c.args.delta c.args.n (tree_of c.args.store.now.table c.args.m)) (tree_of c.args.store.now.table c.args.f) (tree_of c.args.store.now.table c.args.g)) (any_time c.args.block.first c.args.block.bits (since_ages c.args.block.first c.args.block.bits (age_drop c.args.block.first c.args.block.bits c.args.delta c.args.n (tree_of c.args.store.now.table c.args.m)) (tree_of c.args.store.now.table c.args.f) (tree_of c.args.store.now.table c.args.g))) (since_ages c.args.block.first c.args.block.bits (age_drop c.args.block.first c.args.block.bits c.args.delta c.args.n (tree_of c.args.store.now.table c.args.m)) (tree_of c.args.store.now.table c.args.f) (tree_of c.args.store.now.table c.args.g)) (take c.args.done c.args.handles.now) c.args.store.now.table c.drop_row.new.store.table (Err c.in-Err.full) c.requires.roots
    (end_err 1 (age_drop c.args.block.first c.args.block.bits c.args.delta c.args.n (tree_of c.args.store.now.table c.args.m)) (take c.args.done c.args.handles.now) [] c.args.store.now.table c.drop_row.new.store.table c.in-Err.full (since_rows c.args.block.first c.args.block.bits (age_drop c.args.block.first c.args.block.bits c.args.delta c.args.n (tree_of c.args.store.now.table c.args.m)) (tree_of c.args.store.now.table c.args.f) (tree_of c.args.store.now.table c.args.g)) (any_time c.args.block.first c.args.block.bits (since_ages c.args.block.first c.args.block.bits (age_drop c.args.block.first c.args.block.bits c.args.delta c.args.n (tree_of c.args.store.now.table c.args.m)) (tree_of c.args.store.now.table c.args.f) (tree_of c.args.store.now.table c.args.g))) (since_ages c.args.block.first c.args.block.bits (age_drop c.args.block.first c.args.block.bits c.args.delta c.args.n (tree_of c.args.store.now.table c.args.m)) (tree_of c.args.store.now.table c.args.f) (tree_of c.args.store.now.table c.args.g)) c.in-Err.ensures.row)
