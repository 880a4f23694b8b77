use Rattle.std.proofs.Common.{[], ◌∷◌, take, refl, arith, inr}
use Rattle.node_table.specs.Table.{tree_of}
use Rattle.timed_bits.specs.Changes.{at_time}
use Rattle.operation_rows.proofs.Lines.{one_valid, end_err, end_last}
use Rattle.operation_rows.proofs.past.past_last_row.Goals as goal

pub at_row-requires-clause-letters : goal.at_row-requires-clause-letters
at_row-requires-clause-letters g c = one_valid c.args.store.now.table c.args.e c.requires.letter

pub at_row-requires-clause-operand : goal.at_row-requires-clause-operand
at_row-requires-clause-operand g c = inr (0, omega arith, refl)

pub returns-in-Ok-clause-made : goal.returns-in-Ok-clause-made
returns-in-Ok-clause-made g c = end_last c.args.number (at_time c.args.block.first c.args.block.bits c.args.past (tree_of c.args.store.now.table c.args.e)) (take c.args.done c.args.handles.now) (c.args.e ∷ []) c.args.store.now.table c.at_row.new.store.table c.in-Ok.now c.args.e [] refl c.in-Ok.ensures.row

pub returns-in-Err-clause-made : goal.returns-in-Err-clause-made
returns-in-Err-clause-made g c = end_err c.args.number (at_time c.args.block.first c.args.block.bits c.args.past (tree_of c.args.store.now.table c.args.e)) (take c.args.done c.args.handles.now) (c.args.e ∷ []) c.args.store.now.table c.at_row.new.store.table c.in-Err.full [] (at_time c.args.block.first c.args.block.bits c.args.past (tree_of c.args.store.now.table c.args.e)) (tree_of c.args.store.now.table c.args.e) c.in-Err.ensures.row
