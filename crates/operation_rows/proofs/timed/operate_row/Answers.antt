use Rattle.std.proofs.Common.{[], ◌∷◌, take, refl}
use Rattle.bdd_ops.specs.Applied.{op_tree}
use Rattle.operation_rows.proofs.Lines.{all_valid, kept_valid, row_ok, row_full}
use Rattle.operation_rows.proofs.timed.operate_row.Goals as goal

pub operate-requires-clause-left : goal.operate-requires-clause-left
operate-requires-clause-left g c = kept_valid c.args.store.now.table (take c.args.done c.args.handles.now) c.args.letters.now c.args.u c.requires.roots c.requires.letters c.requires.left

pub operate-requires-clause-right : goal.operate-requires-clause-right
operate-requires-clause-right g c = kept_valid c.args.store.now.table (take c.args.done c.args.handles.now) c.args.letters.now c.args.v c.requires.roots c.requires.letters c.requires.right

pub operate-requires-clause-roots : goal.operate-requires-clause-roots
operate-requires-clause-roots g c = all_valid c.args.store.now.table (take c.args.done c.args.handles.now) c.args.letters.now (take c.keep-end.result c.keep-end.new.handles) c.keep-end.ensures.kept c.requires.roots c.requires.letters

pub returns-in-Ok-clause-row : goal.returns-in-Ok-clause-row
returns-in-Ok-clause-row g c = row_ok (op_tree c.args.op c.args.store.now.table c.args.u c.args.v) (c.args.u ∷ (c.args.v ∷ [])) (take c.args.done c.args.handles.now) c.args.letters.now (take c.keep-end.result c.keep-end.new.handles) c.args.store.now.table c.operate.new.store.table c.args.number c.keep-end.ensures.kept (c.requires.left, (c.requires.right, tt)) c.in-Ok.made c.in-Ok.ensures.made

pub returns-in-Err-clause-row : goal.returns-in-Err-clause-row
returns-in-Err-clause-row g c = row_full (op_tree c.args.op c.args.store.now.table c.args.u c.args.v) (c.args.u ∷ (c.args.v ∷ [])) (take c.args.done c.args.handles.now) c.args.letters.now (take c.keep-end.result c.keep-end.new.handles) c.args.store.now.table c.operate.new.store.table c.args.number c.keep-end.ensures.kept (c.requires.left, (c.requires.right, tt)) c.in-Err.field-0 _ refl c.in-Err.ensures.made
