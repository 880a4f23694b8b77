use Rattle.std.proofs.Common.{◌+◌, [], ◌∷◌, take, refl, sym, subst, arith, inr}
use Rattle.node_table.specs.Table.{tree_of}
use Rattle.node_table.specs.Collects.{AllValid}
use Rattle.bdd_ops.specs.declared.op.Op.TheVariants.{Or}
use Rattle.bdd_ops.proofs.Tries.{both_valid}
use Rattle.timed_bits.specs.Changes.{at_time, stamp}
use Rattle.timed_bits.specs.Entries.{IsAgeTree}
use Rattle.operation_rows.specs.Kinds.{applied}
use Rattle.operation_rows.specs.Lines.{EndsRows}
use Rattle.operation_rows.specs.Past.{past_joined}
use Rattle.operation_rows.proofs.Lines.{stays_valid, end_err, end_more}
use Rattle.operation_rows.proofs.past.past_stamped_rows.Goals as goal

pub stamp_row-requires-clause-letters : goal.stamp_row-requires-clause-letters
stamp_row-requires-clause-letters g c = both_valid c.args.store.now.table c.args.a c.args.w c.requires.kept c.requires.new

pub stamp_row-requires-clause-operand : goal.stamp_row-requires-clause-operand
stamp_row-requires-clause-operand g c = inr (1, omega arith, refl)

pub past_joined_rows-requires-clause-roots : goal.past_joined_rows-requires-clause-roots
past_joined_rows-requires-clause-roots g c = subst (AllValid c.stamp_row.new.store.table) (sym c.stamp_row.ensures.roots) (stays_valid c.args.store.now.table c.stamp_row.new.store.table (take c.args.done c.args.handles.now) c.stamp_row.ensures.row.roots_stay)

pub past_joined_rows-requires-clause-kept : goal.past_joined_rows-requires-clause-kept
past_joined_rows-requires-clause-kept g c = (c.stamp_row.ensures.row.letters_stay 0 (omega arith)).0

pub past_joined_rows-requires-clause-ages : goal.past_joined_rows-requires-clause-ages
past_joined_rows-requires-clause-ages g c = subst (λ t. IsAgeTree c.args.block.first c.args.block.bits (applied Or t (tree_of c.stamp_row.new.store.table c.in-Ok.z))) (sym (c.stamp_row.ensures.row.letters_stay 0 (omega arith)).1) (subst (λ t. IsAgeTree c.args.block.first c.args.block.bits (applied Or (tree_of c.args.store.now.table c.args.a) t)) (sym c.in-Ok.ensures.row.is) c.requires.ages)

pub returns-in-Ok-clause-made : goal.returns-in-Ok-clause-made
returns-in-Ok-clause-made g c =
    let rest = subst (λ rs. EndsRows (c.args.number + 1) (past_joined c.args.block.first c.args.block.bits c.args.past (tree_of c.stamp_row.new.store.table c.args.a) (tree_of c.stamp_row.new.store.table c.in-Ok.z)) (at_time c.args.block.first c.args.block.bits c.args.past (applied Or (tree_of c.stamp_row.new.store.table c.args.a) (tree_of c.stamp_row.new.store.table c.in-Ok.z))) (applied Or (tree_of c.stamp_row.new.store.table c.args.a) (tree_of c.stamp_row.new.store.table c.in-Ok.z)) rs c.stamp_row.new.store.table c.past_joined_rows.new.store.table c.past_joined_rows.result) c.stamp_row.ensures.roots c.past_joined_rows.ensures.made in
    let kept = subst (λ t. EndsRows (c.args.number + 1) (past_joined c.args.block.first c.args.block.bits c.args.past t (tree_of c.stamp_row.new.store.table c.in-Ok.z)) (at_time c.args.block.first c.args.block.bits c.args.past (applied Or t (tree_of c.stamp_row.new.store.table c.in-Ok.z))) (applied Or t (tree_of c.stamp_row.new.store.table c.in-Ok.z)) (take c.args.done c.args.handles.now) c.stamp_row.new.store.table c.past_joined_rows.new.store.table c.past_joined_rows.result) (c.stamp_row.ensures.row.letters_stay 0 (omega arith)).1 rest in
    end_more c.args.number (stamp c.args.block.first c.args.block.bits (tree_of c.args.store.now.table c.args.w)) (take c.args.done c.args.handles.now) (c.args.a ∷ c.args.w ∷ []) c.args.store.now.table c.stamp_row.new.store.table c.in-Ok.z (past_joined c.args.block.first c.args.block.bits c.args.past (tree_of c.args.store.now.table c.args.a) (stamp c.args.block.first c.args.block.bits (tree_of c.args.store.now.table c.args.w))) (at_time c.args.block.first c.args.block.bits c.args.past (applied Or (tree_of c.args.store.now.table c.args.a) (stamp c.args.block.first c.args.block.bits (tree_of c.args.store.now.table c.args.w)))) (applied Or (tree_of c.args.store.now.table c.args.a) (stamp c.args.block.first c.args.block.bits (tree_of c.args.store.now.table c.args.w))) c.past_joined_rows.new.store.table c.past_joined_rows.result c.in-Ok.ensures.row
    (subst (λ t. EndsRows (c.args.number + 1) (past_joined c.args.block.first c.args.block.bits c.args.past (tree_of c.args.store.now.table c.args.a) t) (at_time c.args.block.first c.args.block.bits c.args.past (applied Or (tree_of c.args.store.now.table c.args.a) t)) (applied Or (tree_of c.args.store.now.table c.args.a) t) (take c.args.done c.args.handles.now) c.stamp_row.new.store.table c.past_joined_rows.new.store.table c.past_joined_rows.result) c.in-Ok.ensures.row.is kept)

pub returns-in-Err-clause-made : goal.returns-in-Err-clause-made
returns-in-Err-clause-made g c = end_err c.args.number (stamp c.args.block.first c.args.block.bits (tree_of c.args.store.now.table c.args.w)) (take c.args.done c.args.handles.now) (c.args.a ∷ c.args.w ∷ []) c.args.store.now.table c.stamp_row.new.store.table c.in-Err.full (past_joined c.args.block.first c.args.block.bits c.args.past (tree_of c.args.store.now.table c.args.a) (stamp c.args.block.first c.args.block.bits (tree_of c.args.store.now.table c.args.w))) (at_time c.args.block.first c.args.block.bits c.args.past (applied Or (tree_of c.args.store.now.table c.args.a) (stamp c.args.block.first c.args.block.bits (tree_of c.args.store.now.table c.args.w)))) (applied Or (tree_of c.args.store.now.table c.args.a) (stamp c.args.block.first c.args.block.bits (tree_of c.args.store.now.table c.args.w))) c.in-Err.ensures.row
