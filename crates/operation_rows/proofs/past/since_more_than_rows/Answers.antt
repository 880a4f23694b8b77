use Rattle.std.proofs.Common.{◌+◌, [], ◌∷◌, take, sym, subst, inl}
use Rattle.std.specs.Prelude.{Err}
use Rattle.node_tree.specs.Levels.{LevelsBelow}
use Rattle.node_table.specs.Table.{tree_of}
use Rattle.timed_bits.specs.Changes.{at_time, age_cap}
use Rattle.timed_bits.specs.Entries.{IsAgeTree}
use Rattle.operation_rows.specs.Rows.{row}
use Rattle.operation_rows.specs.Lines.{EndsRows}
use Rattle.operation_rows.specs.Past.{past_since, past_since_ages}
use Rattle.operation_rows.proofs.Lines.{stays_valid, stays_tree, end_err, end_more, ends_all}
use Rattle.operation_rows.proofs.PastAges.{capped-ages}
use Rattle.operation_rows.proofs.past.since_more_than_rows.Goals as goal

pub cap_row-requires-clause-operand : goal.cap_row-requires-clause-operand
cap_row-requires-clause-operand g c = inl c.requires.memory

pub since_after_cap-requires-clause-roots : goal.since_after_cap-requires-clause-roots
since_after_cap-requires-clause-roots g c = stays_valid c.args.store.now.table c.cap_row.new.store.table (take c.args.done c.args.handles.now) c.cap_row.ensures.row.roots_stay

pub since_after_cap-requires-clause-before_left : goal.since_after_cap-requires-clause-before_left
since_after_cap-requires-clause-before_left g c = subst (LevelsBelow c.args.block.first) (sym (stays_tree c.args.store.now.table c.cap_row.new.store.table (take c.args.done c.args.handles.now) c.args.f c.cap_row.ensures.row.roots_stay c.requires.left).1) c.requires.before_left

pub since_after_cap-requires-clause-before_right : goal.since_after_cap-requires-clause-before_right
since_after_cap-requires-clause-before_right g c = subst (LevelsBelow c.args.block.first) (sym (stays_tree c.args.store.now.table c.cap_row.new.store.table (take c.args.done c.args.handles.now) c.args.g c.cap_row.ensures.row.roots_stay c.requires.right).1) c.requires.before_right

pub since_after_cap-requires-clause-ages : goal.since_after_cap-requires-clause-ages
since_after_cap-requires-clause-ages g c = subst (IsAgeTree c.args.block.first c.args.block.bits) (sym c.in-Ok.ensures.row.is) (capped-ages c.args.block.first c.args.block.bits c.args.delta (c.args.n + 1) (tree_of c.args.store.now.table c.args.m) c.requires.bound c.requires.ages)

pub returns-in-Ok-clause-made : goal.returns-in-Ok-clause-made
returns-in-Ok-clause-made g c =
    let left = subst (λ t. EndsRows 2 (past_since c.args.block.first c.args.block.bits (c.args.n + 1) (tree_of c.cap_row.new.store.table c.in-Ok.c) t (tree_of c.cap_row.new.store.table c.args.g)) (at_time c.args.block.first c.args.block.bits (c.args.n + 1) (past_since_ages c.args.block.first c.args.block.bits (tree_of c.cap_row.new.store.table c.in-Ok.c) t (tree_of c.cap_row.new.store.table c.args.g))) (past_since_ages c.args.block.first c.args.block.bits (tree_of c.cap_row.new.store.table c.in-Ok.c) t (tree_of c.cap_row.new.store.table c.args.g)) (take c.args.done c.args.handles.now) c.cap_row.new.store.table c.since_after_cap.new.store.table c.since_after_cap.result) (stays_tree c.args.store.now.table c.cap_row.new.store.table (take c.args.done c.args.handles.now) c.args.f c.cap_row.ensures.row.roots_stay c.requires.left).1 c.since_after_cap.ensures.made in
    let right = subst (λ t. EndsRows 2 (past_since c.args.block.first c.args.block.bits (c.args.n + 1) (tree_of c.cap_row.new.store.table c.in-Ok.c) (tree_of c.args.store.now.table c.args.f) t) (at_time c.args.block.first c.args.block.bits (c.args.n + 1) (past_since_ages c.args.block.first c.args.block.bits (tree_of c.cap_row.new.store.table c.in-Ok.c) (tree_of c.args.store.now.table c.args.f) t)) (past_since_ages c.args.block.first c.args.block.bits (tree_of c.cap_row.new.store.table c.in-Ok.c) (tree_of c.args.store.now.table c.args.f) t) (take c.args.done c.args.handles.now) c.cap_row.new.store.table c.since_after_cap.new.store.table c.since_after_cap.result) (stays_tree c.args.store.now.table c.cap_row.new.store.table (take c.args.done c.args.handles.now) c.args.g c.cap_row.ensures.row.roots_stay c.requires.right).1 left in
    ends_all (row [] (age_cap c.args.block.first c.args.block.bits c.args.delta (c.args.n + 1) (tree_of c.args.store.now.table c.args.m)) ∷ past_since c.args.block.first c.args.block.bits (c.args.n + 1) (age_cap c.args.block.first c.args.block.bits c.args.delta (c.args.n + 1) (tree_of c.args.store.now.table c.args.m)) (tree_of c.args.store.now.table c.args.f) (tree_of c.args.store.now.table c.args.g)) (at_time c.args.block.first c.args.block.bits (c.args.n + 1) (past_since_ages c.args.block.first c.args.block.bits (age_cap c.args.block.first c.args.block.bits c.args.delta (c.args.n + 1) (tree_of c.args.store.now.table c.args.m)) (tree_of c.args.store.now.table c.args.f) (tree_of c.args.store.now.table c.args.g))) (past_since_ages c.args.block.first c.args.block.bits (age_cap c.args.block.first c.args.block.bits c.args.delta (c.args.n + 1) (tree_of c.args.store.now.table c.args.m)) (tree_of c.args.store.now.table c.args.f) (tree_of c.args.store.now.table c.args.g)) (take c.args.done c.args.handles.now) c.args.store.now.table c.since_after_cap.new.store.table c.since_after_cap.result c.requires.roots
    (end_more 1 (age_cap c.args.block.first c.args.block.bits c.args.delta (c.args.n + 1) (tree_of c.args.store.now.table c.args.m)) (take c.args.done c.args.handles.now) [] c.args.store.now.table c.cap_row.new.store.table c.in-Ok.c (past_since c.args.block.first c.args.block.bits (c.args.n + 1) (age_cap c.args.block.first c.args.block.bits c.args.delta (c.args.n + 1) (tree_of c.args.store.now.table c.args.m)) (tree_of c.args.store.now.table c.args.f) (tree_of c.args.store.now.table c.args.g)) (at_time c.args.block.first c.args.block.bits (c.args.n + 1) (past_since_ages c.args.block.first c.args.block.bits (age_cap c.args.block.first c.args.block.bits c.args.delta (c.args.n + 1) (tree_of c.args.store.now.table c.args.m)) (tree_of c.args.store.now.table c.args.f) (tree_of c.args.store.now.table c.args.g))) (past_since_ages c.args.block.first c.args.block.bits (age_cap c.args.block.first c.args.block.bits c.args.delta (c.args.n + 1) (tree_of c.args.store.now.table c.args.m)) (tree_of c.args.store.now.table c.args.f) (tree_of c.args.store.now.table c.args.g)) c.since_after_cap.new.store.table c.since_after_cap.result c.in-Ok.ensures.row
    (subst (λ t. EndsRows 2 (past_since c.args.block.first c.args.block.bits (c.args.n + 1) t (tree_of c.args.store.now.table c.args.f) (tree_of c.args.store.now.table c.args.g)) (at_time c.args.block.first c.args.block.bits (c.args.n + 1) (past_since_ages c.args.block.first c.args.block.bits t (tree_of c.args.store.now.table c.args.f) (tree_of c.args.store.now.table c.args.g))) (past_since_ages c.args.block.first c.args.block.bits t (tree_of c.args.store.now.table c.args.f) (tree_of c.args.store.now.table c.args.g)) (take c.args.done c.args.handles.now) c.cap_row.new.store.table c.since_after_cap.new.store.table c.since_after_cap.result) c.in-Ok.ensures.row.is right))

pub returns-in-Err-clause-made : goal.returns-in-Err-clause-made
returns-in-Err-clause-made g c =
    ends_all (row [] (age_cap c.args.block.first c.args.block.bits c.args.delta (c.args.n + 1) (tree_of c.args.store.now.table c.args.m)) ∷ past_since c.args.block.first c.args.block.bits (c.args.n + 1) (age_cap c.args.block.first c.args.block.bits c.args.delta (c.args.n + 1) (tree_of c.args.store.now.table c.args.m)) (tree_of c.args.store.now.table c.args.f) (tree_of c.args.store.now.table c.args.g)) (at_time c.args.block.first c.args.block.bits (c.args.n + 1) (past_since_ages c.args.block.first c.args.block.bits (age_cap c.args.block.first c.args.block.bits c.args.delta (c.args.n + 1) (tree_of c.args.store.now.table c.args.m)) (tree_of c.args.store.now.table c.args.f) (tree_of c.args.store.now.table c.args.g))) (past_since_ages c.args.block.first c.args.block.bits (age_cap c.args.block.first c.args.block.bits c.args.delta (c.args.n + 1) (tree_of c.args.store.now.table c.args.m)) (tree_of c.args.store.now.table c.args.f) (tree_of c.args.store.now.table c.args.g)) (take c.args.done c.args.handles.now) c.args.store.now.table c.cap_row.new.store.table (Err c.in-Err.full) c.requires.roots
    (end_err 1 (age_cap c.args.block.first c.args.block.bits c.args.delta (c.args.n + 1) (tree_of c.args.store.now.table c.args.m)) (take c.args.done c.args.handles.now) [] c.args.store.now.table c.cap_row.new.store.table c.in-Err.full (past_since c.args.block.first c.args.block.bits (c.args.n + 1) (age_cap c.args.block.first c.args.block.bits c.args.delta (c.args.n + 1) (tree_of c.args.store.now.table c.args.m)) (tree_of c.args.store.now.table c.args.f) (tree_of c.args.store.now.table c.args.g)) (at_time c.args.block.first c.args.block.bits (c.args.n + 1) (past_since_ages c.args.block.first c.args.block.bits (age_cap c.args.block.first c.args.block.bits c.args.delta (c.args.n + 1) (tree_of c.args.store.now.table c.args.m)) (tree_of c.args.store.now.table c.args.f) (tree_of c.args.store.now.table c.args.g))) (past_since_ages c.args.block.first c.args.block.bits (age_cap c.args.block.first c.args.block.bits c.args.delta (c.args.n + 1) (tree_of c.args.store.now.table c.args.m)) (tree_of c.args.store.now.table c.args.f) (tree_of c.args.store.now.table c.args.g)) c.in-Err.ensures.row)
