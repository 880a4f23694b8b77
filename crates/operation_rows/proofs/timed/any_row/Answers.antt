use Rattle.std.proofs.Common.{[], ◌∷◌, take, refl}
use Rattle.node_table.specs.Table.{tree_of}
use Rattle.timed_bits.specs.Changes.{any_time}
use Rattle.operation_rows.proofs.Lines.{all_valid, kept_valid, row_ok, row_full}
use Rattle.operation_rows.proofs.timed.any_row.Goals as goal

pub any_time-requires-clause-valid : goal.any_time-requires-clause-valid
any_time-requires-clause-valid g c = kept_valid c.args.store.now.table (take c.args.done c.args.handles.now) c.args.letters.now c.args.h c.requires.roots c.requires.letters c.requires.operand

pub any_time-requires-clause-roots : goal.any_time-requires-clause-roots
any_time-requires-clause-roots g c = all_valid c.args.store.now.table (take c.args.done c.args.handles.now) c.args.letters.now (take c.keep-end.result c.keep-end.new.handles) c.keep-end.ensures.kept c.requires.roots c.requires.letters

pub returns-in-Ok-clause-row : goal.returns-in-Ok-clause-row
returns-in-Ok-clause-row g c = row_ok (any_time c.args.block.first c.args.block.bits (tree_of c.args.store.now.table c.args.h)) (c.args.h ∷ []) (take c.args.done c.args.handles.now) c.args.letters.now (take c.keep-end.result c.keep-end.new.handles) c.args.store.now.table c.any_time.new.store.table c.args.number c.keep-end.ensures.kept (c.requires.operand, tt) c.in-Ok.made c.in-Ok.ensures.made

pub returns-in-Err-clause-row : goal.returns-in-Err-clause-row
returns-in-Err-clause-row g c = row_full (any_time c.args.block.first c.args.block.bits (tree_of c.args.store.now.table c.args.h)) (c.args.h ∷ []) (take c.args.done c.args.handles.now) c.args.letters.now (take c.keep-end.result c.keep-end.new.handles) c.args.store.now.table c.any_time.new.store.table c.args.number c.keep-end.ensures.kept (c.requires.operand, tt) c.in-Err.field-0 _ refl c.in-Err.ensures.made
