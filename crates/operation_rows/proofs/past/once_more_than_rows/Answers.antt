use Rattle.std.proofs.Common.{◌+◌, [], ◌∷◌, take, sym, subst, inl}
use Rattle.std.specs.Prelude.{Err}
use Rattle.node_tree.specs.Levels.{LevelsBelow}
use Rattle.node_table.specs.Table.{tree_of}
use Rattle.timed_bits.specs.Changes.{at_time, age_cap}
use Rattle.timed_bits.specs.Entries.{IsAgeTree}
use Rattle.operation_rows.specs.Rows.{row}
use Rattle.operation_rows.specs.Lines.{EndsRows}
use Rattle.operation_rows.specs.Past.{past_rows, past_ages}
use Rattle.operation_rows.proofs.Lines.{stays_valid, stays_tree, end_err, end_more, ends_all}
use Rattle.operation_rows.proofs.PastAges.{capped-ages}
use Rattle.operation_rows.proofs.past.once_more_than_rows.Goals as goal

pub cap_row-requires-clause-operand : goal.cap_row-requires-clause-operand
cap_row-requires-clause-operand g c = inl c.requires.memory

pub past_all_rows-requires-clause-roots : goal.past_all_rows-requires-clause-roots
past_all_rows-requires-clause-roots g c = stays_valid c.args.store.now.table c.cap_row.new.store.table (take c.args.done c.args.handles.now) c.cap_row.ensures.row.roots_stay

pub past_all_rows-requires-clause-before : goal.past_all_rows-requires-clause-before
past_all_rows-requires-clause-before g c = subst (LevelsBelow c.args.block.first) (sym (stays_tree c.args.store.now.table c.cap_row.new.store.table (take c.args.done c.args.handles.now) c.args.f c.cap_row.ensures.row.roots_stay c.requires.child).1) c.requires.before

pub past_all_rows-requires-clause-ages : goal.past_all_rows-requires-clause-ages
past_all_rows-requires-clause-ages g c = subst (IsAgeTree c.args.block.first c.args.block.bits) (sym c.in-Ok.ensures.row.is) (capped-ages c.args.block.first c.args.block.bits c.args.delta (c.args.n + 1) (tree_of c.args.store.now.table c.args.m) c.requires.bound c.requires.ages)

pub returns-in-Ok-clause-made : goal.returns-in-Ok-clause-made
returns-in-Ok-clause-made g c =
    let child = subst (λ t. EndsRows 2 (past_rows c.args.block.first c.args.block.bits (c.args.n + 1) t (tree_of c.cap_row.new.store.table c.in-Ok.a)) (at_time c.args.block.first c.args.block.bits (c.args.n + 1) (past_ages c.args.block.first c.args.block.bits t (tree_of c.cap_row.new.store.table c.in-Ok.a))) (past_ages c.args.block.first c.args.block.bits t (tree_of c.cap_row.new.store.table c.in-Ok.a)) (take c.args.done c.args.handles.now) c.cap_row.new.store.table c.past_all_rows.new.store.table c.past_all_rows.result) (stays_tree c.args.store.now.table c.cap_row.new.store.table (take c.args.done c.args.handles.now) c.args.f c.cap_row.ensures.row.roots_stay c.requires.child).1 c.past_all_rows.ensures.made in
    ends_all (row [] (age_cap c.args.block.first c.args.block.bits c.args.delta (c.args.n + 1) (tree_of c.args.store.now.table c.args.m)) ∷ past_rows c.args.block.first c.args.block.bits (c.args.n + 1) (tree_of c.args.store.now.table c.args.f) (age_cap c.args.block.first c.args.block.bits c.args.delta (c.args.n + 1) (tree_of c.args.store.now.table c.args.m))) (at_time c.args.block.first c.args.block.bits (c.args.n + 1) (past_ages c.args.block.first c.args.block.bits (tree_of c.args.store.now.table c.args.f) (age_cap c.args.block.first c.args.block.bits c.args.delta (c.args.n + 1) (tree_of c.args.store.now.table c.args.m)))) (past_ages c.args.block.first c.args.block.bits (tree_of c.args.store.now.table c.args.f) (age_cap c.args.block.first c.args.block.bits c.args.delta (c.args.n + 1) (tree_of c.args.store.now.table c.args.m))) (take c.args.done c.args.handles.now) c.args.store.now.table c.past_all_rows.new.store.table c.past_all_rows.result c.requires.roots
    (end_more 1 (age_cap c.args.block.first c.args.block.bits c.args.delta (c.args.n + 1) (tree_of c.args.store.now.table c.args.m)) (take c.args.done c.args.handles.now) [] c.args.store.now.table c.cap_row.new.store.table c.in-Ok.a (past_rows c.args.block.first c.args.block.bits (c.args.n + 1) (tree_of c.args.store.now.table c.args.f) (age_cap c.args.block.first c.args.block.bits c.args.delta (c.args.n + 1) (tree_of c.args.store.now.table c.args.m))) (at_time c.args.block.first c.args.block.bits (c.args.n + 1) (past_ages c.args.block.first c.args.block.bits (tree_of c.args.store.now.table c.args.f) (age_cap c.args.block.first c.args.block.bits c.args.delta (c.args.n + 1) (tree_of c.args.store.now.table c.args.m)))) (past_ages c.args.block.first c.args.block.bits (tree_of c.args.store.now.table c.args.f) (age_cap c.args.block.first c.args.block.bits c.args.delta (c.args.n + 1) (tree_of c.args.store.now.table c.args.m))) c.past_all_rows.new.store.table c.past_all_rows.result c.in-Ok.ensures.row
    (subst (λ t. EndsRows 2 (past_rows c.args.block.first c.args.block.bits (c.args.n + 1) (tree_of c.args.store.now.table c.args.f) t) (at_time c.args.block.first c.args.block.bits (c.args.n + 1) (past_ages c.args.block.first c.args.block.bits (tree_of c.args.store.now.table c.args.f) t)) (past_ages c.args.block.first c.args.block.bits (tree_of c.args.store.now.table c.args.f) t) (take c.args.done c.args.handles.now) c.cap_row.new.store.table c.past_all_rows.new.store.table c.past_all_rows.result) c.in-Ok.ensures.row.is child))

pub returns-in-Err-clause-made : goal.returns-in-Err-clause-made
returns-in-Err-clause-made g c =
    ends_all (row [] (age_cap c.args.block.first c.args.block.bits c.args.delta (c.args.n + 1) (tree_of c.args.store.now.table c.args.m)) ∷ past_rows c.args.block.first c.args.block.bits (c.args.n + 1) (tree_of c.args.store.now.table c.args.f) (age_cap c.args.block.first c.args.block.bits c.args.delta (c.args.n + 1) (tree_of c.args.store.now.table c.args.m))) (at_time c.args.block.first c.args.block.bits (c.args.n + 1) (past_ages c.args.block.first c.args.block.bits (tree_of c.args.store.now.table c.args.f) (age_cap c.args.block.first c.args.block.bits c.args.delta (c.args.n + 1) (tree_of c.args.store.now.table c.args.m)))) (past_ages c.args.block.first c.args.block.bits (tree_of c.args.store.now.table c.args.f) (age_cap c.args.block.first c.args.block.bits c.args.delta (c.args.n + 1) (tree_of c.args.store.now.table c.args.m))) (take c.args.done c.args.handles.now) c.args.store.now.table c.cap_row.new.store.table (Err c.in-Err.full) c.requires.roots
    (end_err 1 (age_cap c.args.block.first c.args.block.bits c.args.delta (c.args.n + 1) (tree_of c.args.store.now.table c.args.m)) (take c.args.done c.args.handles.now) [] c.args.store.now.table c.cap_row.new.store.table c.in-Err.full (past_rows c.args.block.first c.args.block.bits (c.args.n + 1) (tree_of c.args.store.now.table c.args.f) (age_cap c.args.block.first c.args.block.bits c.args.delta (c.args.n + 1) (tree_of c.args.store.now.table c.args.m))) (at_time c.args.block.first c.args.block.bits (c.args.n + 1) (past_ages c.args.block.first c.args.block.bits (tree_of c.args.store.now.table c.args.f) (age_cap c.args.block.first c.args.block.bits c.args.delta (c.args.n + 1) (tree_of c.args.store.now.table c.args.m)))) (past_ages c.args.block.first c.args.block.bits (tree_of c.args.store.now.table c.args.f) (age_cap c.args.block.first c.args.block.bits c.args.delta (c.args.n + 1) (tree_of c.args.store.now.table c.args.m))) c.in-Err.ensures.row)
