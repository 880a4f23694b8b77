use Rattle.std.proofs.Common.{[], ◌∷◌, take, refl, sym, subst, arith, inr}
use Rattle.node_table.specs.Table.{tree_of}
use Rattle.node_table.specs.Collects.{AllValid}
use Rattle.bdd_ops.specs.declared.op.Op.TheVariants.{Or}
use Rattle.bdd_ops.proofs.Tries.{both_valid}
use Rattle.timed_bits.specs.Changes.{any_time, stamp}
use Rattle.timed_bits.specs.Entries.{IsAgeTree}
use Rattle.operation_rows.specs.Kinds.{applied}
use Rattle.operation_rows.specs.Lines.{joined_rows}
use Rattle.operation_rows.specs.Always.{EndsWithin, fresh_ages}
use Rattle.operation_rows.proofs.Lines.{stays_valid, end_err, end_more}
use Rattle.operation_rows.proofs.Negating.{of_two, told_two}
use Rattle.operation_rows.proofs.always.fresh_rows.Goals as goal

pub stamp_row-requires-clause-letters : goal.stamp_row-requires-clause-letters
stamp_row-requires-clause-letters g c = both_valid c.args.store.now.table c.args.c c.args.o c.requires.kept c.requires.new

pub stamp_row-requires-clause-operand : goal.stamp_row-requires-clause-operand
stamp_row-requires-clause-operand g c = inr (1, omega arith, refl)

pub joined_rows-requires-clause-roots : goal.joined_rows-requires-clause-roots
joined_rows-requires-clause-roots g c = subst (AllValid c.stamp_row.new.store.table) (sym c.stamp_row.ensures.roots) (stays_valid c.args.store.now.table c.stamp_row.new.store.table (take c.args.done c.args.handles.now) c.stamp_row.ensures.row.roots_stay)

pub joined_rows-requires-clause-kept : goal.joined_rows-requires-clause-kept
joined_rows-requires-clause-kept g c = (c.stamp_row.ensures.row.letters_stay 0 (omega arith)).0

pub joined_rows-requires-clause-ages : goal.joined_rows-requires-clause-ages
joined_rows-requires-clause-ages g c = of_two (λ x y. IsAgeTree c.args.block.first c.args.block.bits (applied Or x y)) _ _ _ _ (sym (c.stamp_row.ensures.row.letters_stay 0 (omega arith)).1) (sym c.in-Ok.ensures.row.is) c.requires.ages

pub returns-in-Ok-clause-made : goal.returns-in-Ok-clause-made
returns-in-Ok-clause-made g c =
    end_more 4 (stamp c.args.block.first c.args.block.bits (tree_of c.args.store.now.table c.args.o)) (take c.args.done c.args.handles.now) (c.args.c ∷ c.args.o ∷ []) c.args.store.now.table c.stamp_row.new.store.table c.in-Ok.z (joined_rows c.args.block.first c.args.block.bits (tree_of c.args.store.now.table c.args.c) (stamp c.args.block.first c.args.block.bits (tree_of c.args.store.now.table c.args.o))) (any_time c.args.block.first c.args.block.bits (fresh_ages c.args.block.first c.args.block.bits (tree_of c.args.store.now.table c.args.c) (tree_of c.args.store.now.table c.args.o))) (fresh_ages c.args.block.first c.args.block.bits (tree_of c.args.store.now.table c.args.c) (tree_of c.args.store.now.table c.args.o)) c.joined_rows.new.store.table c.joined_rows.result c.in-Ok.ensures.row
    (told_two (λ x y rs. EndsWithin 5 c.args.block.first c.args.block.bits (joined_rows c.args.block.first c.args.block.bits x y) (applied Or x y) rs c.stamp_row.new.store.table c.joined_rows.new.store.table c.joined_rows.result) _ _ _ _ _ _ (c.stamp_row.ensures.row.letters_stay 0 (omega arith)).1 c.in-Ok.ensures.row.is c.stamp_row.ensures.roots c.joined_rows.ensures.made)

pub returns-in-Err-clause-made : goal.returns-in-Err-clause-made
returns-in-Err-clause-made g c = end_err 4 (stamp c.args.block.first c.args.block.bits (tree_of c.args.store.now.table c.args.o)) (take c.args.done c.args.handles.now) (c.args.c ∷ c.args.o ∷ []) c.args.store.now.table c.stamp_row.new.store.table c.in-Err.full (joined_rows c.args.block.first c.args.block.bits (tree_of c.args.store.now.table c.args.c) (stamp c.args.block.first c.args.block.bits (tree_of c.args.store.now.table c.args.o))) (any_time c.args.block.first c.args.block.bits (fresh_ages c.args.block.first c.args.block.bits (tree_of c.args.store.now.table c.args.c) (tree_of c.args.store.now.table c.args.o))) (fresh_ages c.args.block.first c.args.block.bits (tree_of c.args.store.now.table c.args.c) (tree_of c.args.store.now.table c.args.o)) c.in-Err.ensures.row
