use Rattle.std.proofs.Common.{◌+◌, [], ◌∷◌, take, sym, subst, arith, inl}
use Rattle.node_table.specs.Table.{tree_of}
use Rattle.node_table.specs.Collects.{AllValid}
use Rattle.bdd_ops.specs.declared.op.Op.TheVariants.{Or}
use Rattle.timed_bits.specs.Changes.{any_time, stamp}
use Rattle.timed_bits.specs.Entries.{IsAgeTree}
use Rattle.operation_rows.specs.Kinds.{applied}
use Rattle.operation_rows.specs.Lines.{EndsRows, joined_rows}
use Rattle.operation_rows.proofs.Lines.{one_valid, stays_valid, end_err, end_more}
use Rattle.operation_rows.proofs.timed.stamped_rows.Goals as goal

pub stamp_row-requires-clause-letters : goal.stamp_row-requires-clause-letters
stamp_row-requires-clause-letters g c = one_valid c.args.store.now.table c.args.c c.requires.kept

pub stamp_row-requires-clause-operand : goal.stamp_row-requires-clause-operand
stamp_row-requires-clause-operand g c = inl c.requires.child

pub joined_rows-requires-clause-roots : goal.joined_rows-requires-clause-roots
joined_rows-requires-clause-roots g c = subst (AllValid c.stamp_row.new.store.table) (sym c.stamp_row.ensures.roots) (stays_valid c.args.store.now.table c.stamp_row.new.store.table (take c.args.done c.args.handles.now) c.stamp_row.ensures.row.roots_stay)

pub joined_rows-requires-clause-kept : goal.joined_rows-requires-clause-kept
joined_rows-requires-clause-kept g c = (c.stamp_row.ensures.row.letters_stay 0 (omega arith)).0

pub joined_rows-requires-clause-ages : goal.joined_rows-requires-clause-ages
joined_rows-requires-clause-ages g c =
    subst (λ t. IsAgeTree c.args.block.first c.args.block.bits (applied Or t (tree_of c.stamp_row.new.store.table c.in-Ok.z))) (sym (c.stamp_row.ensures.row.letters_stay 0 (omega arith)).1)
    (subst (λ t. IsAgeTree c.args.block.first c.args.block.bits (applied Or (tree_of c.args.store.now.table c.args.c) t)) (sym c.in-Ok.ensures.row.is) c.requires.ages)

pub returns-in-Ok-clause-made : goal.returns-in-Ok-clause-made
returns-in-Ok-clause-made g c =
    let rest = subst (λ rs. EndsRows (c.args.number + 1) (joined_rows c.args.block.first c.args.block.bits (tree_of c.stamp_row.new.store.table c.args.c) (tree_of c.stamp_row.new.store.table c.in-Ok.z)) (any_time c.args.block.first c.args.block.bits (applied Or (tree_of c.stamp_row.new.store.table c.args.c) (tree_of c.stamp_row.new.store.table c.in-Ok.z))) (applied Or (tree_of c.stamp_row.new.store.table c.args.c) (tree_of c.stamp_row.new.store.table c.in-Ok.z)) rs c.stamp_row.new.store.table c.joined_rows.new.store.table c.joined_rows.result) c.stamp_row.ensures.roots c.joined_rows.ensures.made in
    let kept = subst (λ t. EndsRows (c.args.number + 1) (joined_rows c.args.block.first c.args.block.bits t (tree_of c.stamp_row.new.store.table c.in-Ok.z)) (any_time c.args.block.first c.args.block.bits (applied Or t (tree_of c.stamp_row.new.store.table c.in-Ok.z))) (applied Or t (tree_of c.stamp_row.new.store.table c.in-Ok.z)) (take c.args.done c.args.handles.now) c.stamp_row.new.store.table c.joined_rows.new.store.table c.joined_rows.result) (c.stamp_row.ensures.row.letters_stay 0 (omega arith)).1 rest in
    end_more c.args.number (stamp c.args.block.first c.args.block.bits (tree_of c.args.store.now.table c.args.g)) (take c.args.done c.args.handles.now) (c.args.c ∷ []) c.args.store.now.table c.stamp_row.new.store.table c.in-Ok.z (joined_rows c.args.block.first c.args.block.bits (tree_of c.args.store.now.table c.args.c) (stamp c.args.block.first c.args.block.bits (tree_of c.args.store.now.table c.args.g))) (any_time c.args.block.first c.args.block.bits (applied Or (tree_of c.args.store.now.table c.args.c) (stamp c.args.block.first c.args.block.bits (tree_of c.args.store.now.table c.args.g)))) (applied Or (tree_of c.args.store.now.table c.args.c) (stamp c.args.block.first c.args.block.bits (tree_of c.args.store.now.table c.args.g))) c.joined_rows.new.store.table c.joined_rows.result c.in-Ok.ensures.row
    (subst (λ t. EndsRows (c.args.number + 1) (joined_rows c.args.block.first c.args.block.bits (tree_of c.args.store.now.table c.args.c) t) (any_time c.args.block.first c.args.block.bits (applied Or (tree_of c.args.store.now.table c.args.c) t)) (applied Or (tree_of c.args.store.now.table c.args.c) t) (take c.args.done c.args.handles.now) c.stamp_row.new.store.table c.joined_rows.new.store.table c.joined_rows.result) c.in-Ok.ensures.row.is kept)

pub returns-in-Err-clause-made : goal.returns-in-Err-clause-made
returns-in-Err-clause-made g c = end_err c.args.number (stamp c.args.block.first c.args.block.bits (tree_of c.args.store.now.table c.args.g)) (take c.args.done c.args.handles.now) (c.args.c ∷ []) c.args.store.now.table c.stamp_row.new.store.table c.in-Err.full (joined_rows c.args.block.first c.args.block.bits (tree_of c.args.store.now.table c.args.c) (stamp c.args.block.first c.args.block.bits (tree_of c.args.store.now.table c.args.g))) (any_time c.args.block.first c.args.block.bits (applied Or (tree_of c.args.store.now.table c.args.c) (stamp c.args.block.first c.args.block.bits (tree_of c.args.store.now.table c.args.g)))) (applied Or (tree_of c.args.store.now.table c.args.c) (stamp c.args.block.first c.args.block.bits (tree_of c.args.store.now.table c.args.g))) c.in-Err.ensures.row
