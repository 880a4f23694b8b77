use Rattle.std.proofs.Common.{[], ◌∷◌, take, refl, arith, inr}
use Rattle.std.specs.Prelude.{not}
use Rattle.node_table.specs.Table.{tree_of}
use Rattle.bdd_ops.specs.Apply.{map_leaves}
use Rattle.bdd_ops.proofs.Tries.{both_valid}
use Rattle.operation_rows.proofs.Lines.{end_err, end_last}
use Rattle.operation_rows.proofs.always.negated_row.Goals as goal

pub negation_row-requires-clause-letters : goal.negation_row-requires-clause-letters
negation_row-requires-clause-letters g c = both_valid c.args.store.now.table c.args.once.next c.args.once.now c.requires.next c.requires.now

pub negation_row-requires-clause-operand : goal.negation_row-requires-clause-operand
negation_row-requires-clause-operand g c = inr (1, omega arith, refl)

pub returns-in-Ok-clause-made : goal.returns-in-Ok-clause-made
returns-in-Ok-clause-made g c = end_last c.args.number (map_leaves not (tree_of c.args.store.now.table c.args.once.now)) (take c.args.done c.args.handles.now) (c.args.once.next ∷ c.args.once.now ∷ []) c.args.store.now.table c.negation_row.new.store.table c.in-Ok.now c.args.once.next (c.args.once.now ∷ []) refl c.in-Ok.ensures.row

pub returns-in-Err-clause-made : goal.returns-in-Err-clause-made
returns-in-Err-clause-made g c = end_err c.args.number (map_leaves not (tree_of c.args.store.now.table c.args.once.now)) (take c.args.done c.args.handles.now) (c.args.once.next ∷ c.args.once.now ∷ []) c.args.store.now.table c.negation_row.new.store.table c.in-Err.full [] (map_leaves not (tree_of c.args.store.now.table c.args.once.now)) (tree_of c.args.store.now.table c.args.once.next) c.in-Err.ensures.row
