use Rattle.std.proofs.Common.{[], ◌∷◌, take, refl, sym, subst, arith, inr}
use Rattle.std.specs.Prelude.{not}
use Rattle.node_tree.specs.Levels.{LevelsBelow}
use Rattle.node_table.specs.Table.{tree_of}
use Rattle.node_table.specs.Collects.{AllValid}
use Rattle.bdd_ops.specs.declared.op.Op.TheVariants.{AndNot}
use Rattle.bdd_ops.specs.Apply.{map_leaves}
use Rattle.timed_bits.specs.Changes.{any_time, at_time}
use Rattle.timed_bits.specs.Entries.{IsAgeTree}
use Rattle.operation_rows.specs.Kinds.{applied}
use Rattle.operation_rows.specs.Always.{EndsPast, lacking_ages, past_not_rows, past_never_ages}
use Rattle.operation_rows.proofs.Lines.{valid_in, one_valid, stays_valid, stays_tree, end_err, end_more}
use Rattle.operation_rows.proofs.Negating.{of_two, of_three, told_three, past_never-ages, past_never-below}
use Rattle.operation_rows.proofs.always.past_never_rows.Goals as goal

pub any_row-requires-clause-letters : goal.any_row-requires-clause-letters
any_row-requires-clause-letters g c = one_valid c.args.store.now.table c.args.a c.requires.letter

pub any_row-requires-clause-operand : goal.any_row-requires-clause-operand
any_row-requires-clause-operand g c = inr (0, omega arith, refl)

pub past_not_rows-requires-clause-roots : goal.past_not_rows-requires-clause-roots
past_not_rows-requires-clause-roots g c = subst (AllValid c.any_row.new.store.table) (sym c.any_row.ensures.roots) (stays_valid c.args.store.now.table c.any_row.new.store.table (take c.args.done c.args.handles.now) c.any_row.ensures.row.roots_stay)

pub past_not_rows-requires-clause-kept : goal.past_not_rows-requires-clause-kept
past_not_rows-requires-clause-kept g c = (c.any_row.ensures.row.letters_stay 0 (omega arith)).0

pub past_not_rows-requires-clause-before : goal.past_not_rows-requires-clause-before
past_not_rows-requires-clause-before g c =
    let valid = valid_in c.args.store.now.table (take c.args.done c.args.handles.now) c.args.f c.requires.roots c.requires.child in
    of_two (λ x y. LevelsBelow c.args.block.first (applied AndNot (map_leaves not x) y)) _ _ _ _ (sym (stays_tree c.args.store.now.table c.any_row.new.store.table (take c.args.done c.args.handles.now) c.args.f c.any_row.ensures.row.roots_stay c.requires.child).1) (sym c.in-Ok.ensures.row.is)
    (past_never-below c.args.block.first c.args.block.bits (tree_of c.args.store.now.table c.args.a) (tree_of c.args.store.now.table c.args.f) (c.live-held.ensures.shared.ordered c.args.f valid) (c.live-held.ensures.shared.reduced c.args.f valid) c.requires.before c.requires.ages)

pub past_not_rows-requires-clause-ages : goal.past_not_rows-requires-clause-ages
past_not_rows-requires-clause-ages g c =
    let valid = valid_in c.args.store.now.table (take c.args.done c.args.handles.now) c.args.f c.requires.roots c.requires.child in
    of_three (λ x y z. IsAgeTree c.args.block.first c.args.block.bits (lacking_ages c.args.block.first c.args.block.bits x y (map_leaves not z))) _ _ _ _ _ _ (sym (c.any_row.ensures.row.letters_stay 0 (omega arith)).1) (sym c.in-Ok.ensures.row.is) (sym (stays_tree c.args.store.now.table c.any_row.new.store.table (take c.args.done c.args.handles.now) c.args.f c.any_row.ensures.row.roots_stay c.requires.child).1)
    (past_never-ages c.args.block.first c.args.block.bits (tree_of c.args.store.now.table c.args.a) (tree_of c.args.store.now.table c.args.f) (c.live-held.ensures.shared.ordered c.args.f valid) (c.live-held.ensures.shared.reduced c.args.f valid) c.requires.before c.requires.ages)

pub returns-in-Ok-clause-made : goal.returns-in-Ok-clause-made
returns-in-Ok-clause-made g c =
    let y = any_time c.args.block.first c.args.block.bits (tree_of c.args.store.now.table c.args.a) in
    let e = past_never_ages c.args.block.first c.args.block.bits (tree_of c.args.store.now.table c.args.a) (tree_of c.args.store.now.table c.args.f) in
    end_more 2 y (take c.args.done c.args.handles.now) (c.args.a ∷ []) c.args.store.now.table c.any_row.new.store.table c.in-Ok.y (past_not_rows c.args.block.first c.args.block.bits c.args.past (tree_of c.args.store.now.table c.args.a) y (tree_of c.args.store.now.table c.args.f)) (at_time c.args.block.first c.args.block.bits c.args.past e) e c.past_not_rows.new.store.table c.past_not_rows.result c.in-Ok.ensures.row
    (told_three (λ x y z rs. EndsPast 3 c.args.block.first c.args.block.bits c.args.past (past_not_rows c.args.block.first c.args.block.bits c.args.past x y z) (lacking_ages c.args.block.first c.args.block.bits x y (map_leaves not z)) rs c.any_row.new.store.table c.past_not_rows.new.store.table c.past_not_rows.result) _ _ _ _ _ _ _ _ (c.any_row.ensures.row.letters_stay 0 (omega arith)).1 c.in-Ok.ensures.row.is (stays_tree c.args.store.now.table c.any_row.new.store.table (take c.args.done c.args.handles.now) c.args.f c.any_row.ensures.row.roots_stay c.requires.child).1 c.any_row.ensures.roots c.past_not_rows.ensures.made)

pub returns-in-Err-clause-made : goal.returns-in-Err-clause-made
returns-in-Err-clause-made g c =
    let y = any_time c.args.block.first c.args.block.bits (tree_of c.args.store.now.table c.args.a) in
    let e = past_never_ages c.args.block.first c.args.block.bits (tree_of c.args.store.now.table c.args.a) (tree_of c.args.store.now.table c.args.f) in
    end_err 2 y (take c.args.done c.args.handles.now) (c.args.a ∷ []) c.args.store.now.table c.any_row.new.store.table c.in-Err.full (past_not_rows c.args.block.first c.args.block.bits c.args.past (tree_of c.args.store.now.table c.args.a) y (tree_of c.args.store.now.table c.args.f)) (at_time c.args.block.first c.args.block.bits c.args.past e) e c.in-Err.ensures.row
