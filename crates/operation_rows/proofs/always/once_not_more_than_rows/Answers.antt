use Rattle.std.proofs.Common.{[], ◌∷◌, ◌+◌, take, refl, sym, subst, inl}
use Rattle.std.specs.Prelude.{Err}
use Rattle.node_tree.specs.Levels.{LevelsBelow}
use Rattle.node_table.specs.Table.{tree_of}
use Rattle.timed_bits.specs.Changes.{at_time, age_cap}
use Rattle.timed_bits.specs.Entries.{IsAgeTree}
use Rattle.operation_rows.specs.Rows.{row}
use Rattle.operation_rows.specs.Always.{EndsPast, past_never_rows, past_never_ages}
use Rattle.operation_rows.proofs.Lines.{stays_valid, stays_tree, end_err, end_more, ends_all}
use Rattle.operation_rows.proofs.PastAges.{capped-ages}
use Rattle.operation_rows.proofs.Negating.{told_two}
use Rattle.operation_rows.proofs.always.once_not_more_than_rows.Goals as goal

pub cap_row-requires-clause-operand : goal.cap_row-requires-clause-operand
cap_row-requires-clause-operand g c = inl c.requires.memory

pub past_never_rows-requires-clause-roots : goal.past_never_rows-requires-clause-roots
past_never_rows-requires-clause-roots g c = stays_valid c.args.store.now.table c.cap_row.new.store.table (take c.args.done c.args.handles.now) c.cap_row.ensures.row.roots_stay

pub past_never_rows-requires-clause-before : goal.past_never_rows-requires-clause-before
past_never_rows-requires-clause-before g c = subst (LevelsBelow c.args.block.first) (sym (stays_tree c.args.store.now.table c.cap_row.new.store.table (take c.args.done c.args.handles.now) c.args.f c.cap_row.ensures.row.roots_stay c.requires.child).1) c.requires.before

pub past_never_rows-requires-clause-ages : goal.past_never_rows-requires-clause-ages
past_never_rows-requires-clause-ages g c = subst (IsAgeTree c.args.block.first c.args.block.bits) (sym c.in-Ok.ensures.row.is) (capped-ages c.args.block.first c.args.block.bits c.args.delta (c.args.n + 1) (tree_of c.args.store.now.table c.args.m) c.requires.bound c.requires.ages)

pub returns-in-Ok-clause-made : goal.returns-in-Ok-clause-made
returns-in-Ok-clause-made g c =
    let a = age_cap c.args.block.first c.args.block.bits c.args.delta (c.args.n + 1) (tree_of c.args.store.now.table c.args.m) in
    let e = past_never_ages c.args.block.first c.args.block.bits a (tree_of c.args.store.now.table c.args.f) in
    ends_all (row [] a ∷ past_never_rows c.args.block.first c.args.block.bits (c.args.n + 1) a (tree_of c.args.store.now.table c.args.f)) (at_time c.args.block.first c.args.block.bits (c.args.n + 1) e) e (take c.args.done c.args.handles.now) c.args.store.now.table c.past_never_rows.new.store.table c.past_never_rows.result c.requires.roots
    (end_more 1 a (take c.args.done c.args.handles.now) [] c.args.store.now.table c.cap_row.new.store.table c.in-Ok.a (past_never_rows c.args.block.first c.args.block.bits (c.args.n + 1) a (tree_of c.args.store.now.table c.args.f)) (at_time c.args.block.first c.args.block.bits (c.args.n + 1) e) e c.past_never_rows.new.store.table c.past_never_rows.result c.in-Ok.ensures.row
    (told_two (λ x y rs. EndsPast 2 c.args.block.first c.args.block.bits (c.args.n + 1) (past_never_rows c.args.block.first c.args.block.bits (c.args.n + 1) x y) (past_never_ages c.args.block.first c.args.block.bits x y) rs c.cap_row.new.store.table c.past_never_rows.new.store.table c.past_never_rows.result) _ _ _ _ _ (take c.args.done c.args.handles.now) c.in-Ok.ensures.row.is (stays_tree c.args.store.now.table c.cap_row.new.store.table (take c.args.done c.args.handles.now) c.args.f c.cap_row.ensures.row.roots_stay c.requires.child).1 refl c.past_never_rows.ensures.made))

pub returns-in-Err-clause-made : goal.returns-in-Err-clause-made
returns-in-Err-clause-made g c =
    let a = age_cap c.args.block.first c.args.block.bits c.args.delta (c.args.n + 1) (tree_of c.args.store.now.table c.args.m) in
    let e = past_never_ages c.args.block.first c.args.block.bits a (tree_of c.args.store.now.table c.args.f) in
    ends_all (row [] a ∷ past_never_rows c.args.block.first c.args.block.bits (c.args.n + 1) a (tree_of c.args.store.now.table c.args.f)) (at_time c.args.block.first c.args.block.bits (c.args.n + 1) e) e (take c.args.done c.args.handles.now) c.args.store.now.table c.cap_row.new.store.table (Err c.in-Err.full) c.requires.roots
    (end_err 1 a (take c.args.done c.args.handles.now) [] c.args.store.now.table c.cap_row.new.store.table c.in-Err.full (past_never_rows c.args.block.first c.args.block.bits (c.args.n + 1) a (tree_of c.args.store.now.table c.args.f)) (at_time c.args.block.first c.args.block.bits (c.args.n + 1) e) e c.in-Err.ensures.row)
