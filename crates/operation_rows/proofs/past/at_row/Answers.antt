use Rattle.std.proofs.Common.{[], ◌∷◌, take, refl}
use Rattle.node_table.specs.Table.{tree_of}
use Rattle.timed_bits.specs.Changes.{at_time}
use Rattle.operation_rows.proofs.Lines.{kept_valid, all_valid, row_ok, row_full}
use Rattle.operation_rows.proofs.past.at_row.Goals as goal

pub at_time-requires-clause-valid : goal.at_time-requires-clause-valid
at_time-requires-clause-valid g c = kept_valid c.args.store.now.table (take c.args.done c.args.handles.now) c.args.letters.now c.args.h c.requires.roots c.requires.letters c.requires.operand

pub at_time-requires-clause-roots : goal.at_time-requires-clause-roots
at_time-requires-clause-roots g c = all_valid c.args.store.now.table (take c.args.done c.args.handles.now) c.args.letters.now (take c.keep-end.result c.keep-end.new.handles) c.keep-end.ensures.kept c.requires.roots c.requires.letters

pub returns-in-Ok-clause-row : goal.returns-in-Ok-clause-row
returns-in-Ok-clause-row g c = row_ok (at_time c.args.block.first c.args.block.bits c.args.age (tree_of c.args.store.now.table c.args.h)) (c.args.h ∷ []) (take c.args.done c.args.handles.now) c.args.letters.now (take c.keep-end.result c.keep-end.new.handles) c.args.store.now.table c.at_time.new.store.table c.args.number c.keep-end.ensures.kept (c.requires.operand, tt) c.in-Ok.made c.in-Ok.ensures.made

pub returns-in-Err-clause-row : goal.returns-in-Err-clause-row
returns-in-Err-clause-row g c = row_full (at_time c.args.block.first c.args.block.bits c.args.age (tree_of c.args.store.now.table c.args.h)) (c.args.h ∷ []) (take c.args.done c.args.handles.now) c.args.letters.now (take c.keep-end.result c.keep-end.new.handles) c.args.store.now.table c.at_time.new.store.table c.args.number c.keep-end.ensures.kept (c.requires.operand, tt) c.in-Err.field-0 _ refl c.in-Err.ensures.made
