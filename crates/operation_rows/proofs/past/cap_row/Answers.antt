use Rattle.std.proofs.Common.{[], ◌∷◌, take, refl, sym, append-nil}
use Rattle.node_table.specs.Table.{tree_of}
use Rattle.bdd_ops.proofs.Tries.{none_valid}
use Rattle.timed_bits.specs.Changes.{age_cap}
use Rattle.operation_rows.proofs.Lines.{kept_valid, row_ok, row_full}
use Rattle.operation_rows.proofs.past.cap_row.Goals as goal

pub age_cap-requires-clause-valid : goal.age_cap-requires-clause-valid
age_cap-requires-clause-valid g c = kept_valid c.args.store.now.table (take c.args.done c.args.handles.now) [] c.args.h c.requires.roots (none_valid c.args.store.now.table) c.requires.operand

pub returns-in-Ok-clause-row : goal.returns-in-Ok-clause-row
returns-in-Ok-clause-row g c = let nothing = sym (append-nil (take c.args.done c.args.handles.now)) in row_ok (age_cap c.args.block.first c.args.block.bits c.args.delta c.args.cap (tree_of c.args.store.now.table c.args.h)) (c.args.h ∷ []) (take c.args.done c.args.handles.now) [] (take c.args.done c.args.handles.now) c.args.store.now.table c.age_cap.new.store.table 1 nothing (c.requires.operand, tt) c.in-Ok.made c.in-Ok.ensures.made

pub returns-in-Err-clause-row : goal.returns-in-Err-clause-row
returns-in-Err-clause-row g c = let nothing = sym (append-nil (take c.args.done c.args.handles.now)) in row_full (age_cap c.args.block.first c.args.block.bits c.args.delta c.args.cap (tree_of c.args.store.now.table c.args.h)) (c.args.h ∷ []) (take c.args.done c.args.handles.now) [] (take c.args.done c.args.handles.now) c.args.store.now.table c.age_cap.new.store.table 1 nothing (c.requires.operand, tt) c.in-Err.field-0 _ refl c.in-Err.ensures.made
