use Rattle.std.proofs.Common.{◌+◌, [], ◌∷◌, take, refl, sym, subst, arith, inr}
use Rattle.node_table.specs.Table.{tree_of}
use Rattle.node_table.specs.Collects.{AllValid}
use Rattle.bdd_ops.specs.declared.op.Op.TheVariants.{Or}
use Rattle.bdd_ops.proofs.Tries.{both_valid}
use Rattle.timed_bits.specs.Changes.{any_time}
use Rattle.timed_bits.specs.Entries.{IsAgeTree}
use Rattle.operation_rows.specs.Kinds.{applied}
use Rattle.operation_rows.specs.Lines.{EndsRows, last_rows}
use Rattle.operation_rows.proofs.Lines.{stays_valid, end_err, end_more}
use Rattle.operation_rows.proofs.timed.joined_rows.Goals as goal

pub operate_row-requires-clause-letters : goal.operate_row-requires-clause-letters
operate_row-requires-clause-letters g c = both_valid c.args.store.now.table c.args.c c.args.z c.requires.kept c.requires.new

pub operate_row-requires-clause-left : goal.operate_row-requires-clause-left
operate_row-requires-clause-left g c = inr (0, omega arith, refl)

pub operate_row-requires-clause-right : goal.operate_row-requires-clause-right
operate_row-requires-clause-right g c = inr (1, omega arith, refl)

pub last_row-requires-clause-roots : goal.last_row-requires-clause-roots
last_row-requires-clause-roots g c = subst (AllValid c.operate_row.new.store.table) (sym c.operate_row.ensures.roots) (stays_valid c.args.store.now.table c.operate_row.new.store.table (take c.args.done c.args.handles.now) c.operate_row.ensures.row.roots_stay)

pub last_row-requires-clause-ages : goal.last_row-requires-clause-ages
last_row-requires-clause-ages g c = subst (IsAgeTree c.args.block.first c.args.block.bits) (sym c.in-Ok.ensures.row.is) c.requires.ages

pub returns-in-Ok-clause-made : goal.returns-in-Ok-clause-made
returns-in-Ok-clause-made g c =
    let rest = subst (λ rs. EndsRows (c.args.number + 1) (last_rows c.args.block.first c.args.block.bits (tree_of c.operate_row.new.store.table c.in-Ok.e)) (any_time c.args.block.first c.args.block.bits (tree_of c.operate_row.new.store.table c.in-Ok.e)) (tree_of c.operate_row.new.store.table c.in-Ok.e) rs c.operate_row.new.store.table c.last_row.new.store.table c.last_row.result) c.operate_row.ensures.roots c.last_row.ensures.made in
    end_more c.args.number (applied Or (tree_of c.args.store.now.table c.args.c) (tree_of c.args.store.now.table c.args.z)) (take c.args.done c.args.handles.now) (c.args.c ∷ c.args.z ∷ []) c.args.store.now.table c.operate_row.new.store.table c.in-Ok.e (last_rows c.args.block.first c.args.block.bits (applied Or (tree_of c.args.store.now.table c.args.c) (tree_of c.args.store.now.table c.args.z))) (any_time c.args.block.first c.args.block.bits (applied Or (tree_of c.args.store.now.table c.args.c) (tree_of c.args.store.now.table c.args.z))) (applied Or (tree_of c.args.store.now.table c.args.c) (tree_of c.args.store.now.table c.args.z)) c.last_row.new.store.table c.last_row.result c.in-Ok.ensures.row
    (subst (λ t. EndsRows (c.args.number + 1) (last_rows c.args.block.first c.args.block.bits t) (any_time c.args.block.first c.args.block.bits t) t (take c.args.done c.args.handles.now) c.operate_row.new.store.table c.last_row.new.store.table c.last_row.result) c.in-Ok.ensures.row.is rest)

pub returns-in-Err-clause-made : goal.returns-in-Err-clause-made
returns-in-Err-clause-made g c = end_err c.args.number (applied Or (tree_of c.args.store.now.table c.args.c) (tree_of c.args.store.now.table c.args.z)) (take c.args.done c.args.handles.now) (c.args.c ∷ c.args.z ∷ []) c.args.store.now.table c.operate_row.new.store.table c.in-Err.full (last_rows c.args.block.first c.args.block.bits (applied Or (tree_of c.args.store.now.table c.args.c) (tree_of c.args.store.now.table c.args.z))) (any_time c.args.block.first c.args.block.bits (applied Or (tree_of c.args.store.now.table c.args.c) (tree_of c.args.store.now.table c.args.z))) (applied Or (tree_of c.args.store.now.table c.args.c) (tree_of c.args.store.now.table c.args.z)) c.in-Err.ensures.row
