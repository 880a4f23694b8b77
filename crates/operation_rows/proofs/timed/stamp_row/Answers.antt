use Rattle.std.proofs.Common.{[], ◌∷◌, take, refl}
use Rattle.node_table.specs.Table.{tree_of}
use Rattle.timed_bits.specs.Changes.{stamp}
use Rattle.operation_rows.proofs.Lines.{all_valid, kept_valid, row_ok, row_full}
use Rattle.operation_rows.proofs.timed.stamp_row.Goals as goal

pub stamp-requires-clause-valid : goal.stamp-requires-clause-valid
stamp-requires-clause-valid g c = kept_valid c.args.store.now.table (take c.args.done c.args.handles.now) c.args.letters.now c.args.h c.requires.roots c.requires.letters c.requires.operand

pub stamp-requires-clause-roots : goal.stamp-requires-clause-roots
stamp-requires-clause-roots g c = all_valid c.args.store.now.table (take c.args.done c.args.handles.now) c.args.letters.now (take c.keep-end.result c.keep-end.new.handles) c.keep-end.ensures.kept c.requires.roots c.requires.letters

pub returns-in-Ok-clause-row : goal.returns-in-Ok-clause-row
returns-in-Ok-clause-row g c = row_ok (stamp c.args.block.first c.args.block.bits (tree_of c.args.store.now.table c.args.h)) (c.args.h ∷ []) (take c.args.done c.args.handles.now) c.args.letters.now (take c.keep-end.result c.keep-end.new.handles) c.args.store.now.table c.stamp.new.store.table c.args.number c.keep-end.ensures.kept (c.requires.operand, tt) c.in-Ok.made c.in-Ok.ensures.made

pub returns-in-Err-clause-row : goal.returns-in-Err-clause-row
returns-in-Err-clause-row g c = row_full (stamp c.args.block.first c.args.block.bits (tree_of c.args.store.now.table c.args.h)) (c.args.h ∷ []) (take c.args.done c.args.handles.now) c.args.letters.now (take c.keep-end.result c.keep-end.new.handles) c.args.store.now.table c.stamp.new.store.table c.args.number c.keep-end.ensures.kept (c.requires.operand, tt) c.in-Err.field-0 _ refl c.in-Err.ensures.made
