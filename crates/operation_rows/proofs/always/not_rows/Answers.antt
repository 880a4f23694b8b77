use Rattle.std.proofs.Common.{[], ◌∷◌, take, sym, subst, arith, inl}
use Rattle.std.specs.Prelude.{not}
use Rattle.node_tree.specs.Levels.{LevelsBelow}
use Rattle.node_table.specs.Table.{tree_of}
use Rattle.node_table.specs.Collects.{AllValid}
use Rattle.bdd_ops.specs.Apply.{map_leaves}
use Rattle.timed_bits.specs.Changes.{any_time}
use Rattle.timed_bits.specs.Entries.{IsAgeTree}
use Rattle.timed_bits.proofs.Others.{map_leaves-below}
use Rattle.operation_rows.specs.Always.{EndsWithin, fresh_ages, fresh_rows}
use Rattle.operation_rows.proofs.Lines.{one_valid, stays_valid, end_err, end_more}
use Rattle.operation_rows.proofs.Negating.{of_two, told_two}
use Rattle.operation_rows.proofs.always.not_rows.Goals as goal

pub negation_row-requires-clause-letters : goal.negation_row-requires-clause-letters
negation_row-requires-clause-letters g c = one_valid c.args.store.now.table c.args.c c.requires.kept

pub negation_row-requires-clause-operand : goal.negation_row-requires-clause-operand
negation_row-requires-clause-operand g c = inl c.requires.child

pub fresh_rows-requires-clause-roots : goal.fresh_rows-requires-clause-roots
fresh_rows-requires-clause-roots g c = subst (AllValid c.negation_row.new.store.table) (sym c.negation_row.ensures.roots) (stays_valid c.args.store.now.table c.negation_row.new.store.table (take c.args.done c.args.handles.now) c.negation_row.ensures.row.roots_stay)

pub fresh_rows-requires-clause-kept : goal.fresh_rows-requires-clause-kept
fresh_rows-requires-clause-kept g c = (c.negation_row.ensures.row.letters_stay 0 (omega arith)).0

pub fresh_rows-requires-clause-before : goal.fresh_rows-requires-clause-before
fresh_rows-requires-clause-before g c = subst (LevelsBelow c.args.block.first) (sym c.in-Ok.ensures.row.is) (map_leaves-below c.args.block.first not (tree_of c.args.store.now.table c.args.f) c.requires.before)

pub fresh_rows-requires-clause-ages : goal.fresh_rows-requires-clause-ages
fresh_rows-requires-clause-ages g c = of_two (λ x y. IsAgeTree c.args.block.first c.args.block.bits (fresh_ages c.args.block.first c.args.block.bits x y)) _ _ _ _ (sym (c.negation_row.ensures.row.letters_stay 0 (omega arith)).1) (sym c.in-Ok.ensures.row.is) c.requires.ages

pub returns-in-Ok-clause-made : goal.returns-in-Ok-clause-made
returns-in-Ok-clause-made g c =
    let o = map_leaves not (tree_of c.args.store.now.table c.args.f) in
    end_more 3 o (take c.args.done c.args.handles.now) (c.args.c ∷ []) c.args.store.now.table c.negation_row.new.store.table c.in-Ok.o (fresh_rows c.args.block.first c.args.block.bits (tree_of c.args.store.now.table c.args.c) o) (any_time c.args.block.first c.args.block.bits (fresh_ages c.args.block.first c.args.block.bits (tree_of c.args.store.now.table c.args.c) o)) (fresh_ages c.args.block.first c.args.block.bits (tree_of c.args.store.now.table c.args.c) o) c.fresh_rows.new.store.table c.fresh_rows.result c.in-Ok.ensures.row
    (told_two (λ x y rs. EndsWithin 4 c.args.block.first c.args.block.bits (fresh_rows c.args.block.first c.args.block.bits x y) (fresh_ages c.args.block.first c.args.block.bits x y) rs c.negation_row.new.store.table c.fresh_rows.new.store.table c.fresh_rows.result) _ _ _ _ _ _ (c.negation_row.ensures.row.letters_stay 0 (omega arith)).1 c.in-Ok.ensures.row.is c.negation_row.ensures.roots c.fresh_rows.ensures.made)

pub returns-in-Err-clause-made : goal.returns-in-Err-clause-made
returns-in-Err-clause-made g c =
    let o = map_leaves not (tree_of c.args.store.now.table c.args.f) in
    end_err 3 o (take c.args.done c.args.handles.now) (c.args.c ∷ []) c.args.store.now.table c.negation_row.new.store.table c.in-Err.full (fresh_rows c.args.block.first c.args.block.bits (tree_of c.args.store.now.table c.args.c) o) (any_time c.args.block.first c.args.block.bits (fresh_ages c.args.block.first c.args.block.bits (tree_of c.args.store.now.table c.args.c) o)) (fresh_ages c.args.block.first c.args.block.bits (tree_of c.args.store.now.table c.args.c) o) c.in-Err.ensures.row
