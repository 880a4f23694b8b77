use Rattle.std.proofs.Common.{[], ◌∷◌, take, refl, arith, inr}
use Rattle.node_table.specs.Table.{tree_of}
use Rattle.timed_bits.specs.Changes.{any_time}
use Rattle.operation_rows.proofs.Lines.{one_valid, end_err, end_last}
use Rattle.operation_rows.proofs.timed.last_row.Goals as goal

pub any_row-requires-clause-letters : goal.any_row-requires-clause-letters
any_row-requires-clause-letters g c = one_valid c.args.store.now.table c.args.e c.requires.letter

pub any_row-requires-clause-operand : goal.any_row-requires-clause-operand
any_row-requires-clause-operand g c = inr (0, omega arith, refl)

pub returns-in-Ok-clause-made : goal.returns-in-Ok-clause-made
returns-in-Ok-clause-made g c = end_last c.args.number (any_time c.args.block.first c.args.block.bits (tree_of c.args.store.now.table c.args.e)) (take c.args.done c.args.handles.now) (c.args.e ∷ []) c.args.store.now.table c.any_row.new.store.table c.in-Ok.now c.args.e [] refl c.in-Ok.ensures.row

pub returns-in-Err-clause-made : goal.returns-in-Err-clause-made
returns-in-Err-clause-made g c = end_err c.args.number (any_time c.args.block.first c.args.block.bits (tree_of c.args.store.now.table c.args.e)) (take c.args.done c.args.handles.now) (c.args.e ∷ []) c.args.store.now.table c.any_row.new.store.table c.in-Err.full [] (any_time c.args.block.first c.args.block.bits (tree_of c.args.store.now.table c.args.e)) (tree_of c.args.store.now.table c.args.e) c.in-Err.ensures.row
