use Rattle.std.proofs.Common.{◌≡◌, [], ◌∷◌, take, refl, subst}
use Rattle.std.specs.Prelude.{not, Ok, Err}
use Rattle.node_tree.specs.Tree.{One}
use Rattle.node_table.specs.Table.{tree_of}
use Rattle.bdd_ops.specs.Apply.{map_leaves}
use Rattle.operation_rows.proofs.Lines.{all_valid, kept_valid, row_ok, row_full}
use Rattle.operation_rows.proofs.Making.{negates}
use Rattle.operation_rows.proofs.always.negation_row.Goals as goal

pub operate-requires-clause-right : goal.operate-requires-clause-right
operate-requires-clause-right g c = kept_valid c.args.store.now.table (take c.args.done c.args.handles.now) c.args.letters.now c.args.h c.requires.roots c.requires.letters c.requires.operand

pub operate-requires-clause-roots : goal.operate-requires-clause-roots
operate-requires-clause-roots g c = all_valid c.args.store.now.table (take c.args.done c.args.handles.now) c.args.letters.now (take c.keep-end.result c.keep-end.new.handles) c.keep-end.ensures.kept c.requires.roots c.requires.letters

pub returns-in-Ok-clause-row : goal.returns-in-Ok-clause-row
returns-in-Ok-clause-row g c =
    let one = subst (λ t. tree_of t c.one-one.result ≡ One) c.table.ensures c.one-one.ensures.tree in
    row_ok (map_leaves not (tree_of c.args.store.now.table c.args.h)) (c.args.h ∷ []) (take c.args.done c.args.handles.now) c.args.letters.now (take c.keep-end.result c.keep-end.new.handles) c.args.store.now.table c.operate.new.store.table c.args.number c.keep-end.ensures.kept (c.requires.operand, tt) c.in-Ok.made
    (negates c.one-one.result c.args.h (take c.keep-end.result c.keep-end.new.handles) c.args.store.now.table c.operate.new.store.table (Ok c.in-Ok.made) one c.in-Ok.ensures.made)

pub returns-in-Err-clause-row : goal.returns-in-Err-clause-row
returns-in-Err-clause-row g c =
    let one = subst (λ t. tree_of t c.one-one.result ≡ One) c.table.ensures c.one-one.ensures.tree in
    row_full (map_leaves not (tree_of c.args.store.now.table c.args.h)) (c.args.h ∷ []) (take c.args.done c.args.handles.now) c.args.letters.now (take c.keep-end.result c.keep-end.new.handles) c.args.store.now.table c.operate.new.store.table c.args.number c.keep-end.ensures.kept (c.requires.operand, tt) c.in-Err.field-0 _ refl
    (negates c.one-one.result c.args.h (take c.keep-end.result c.keep-end.new.handles) c.args.store.now.table c.operate.new.store.table (Err c.in-Err.field-0) one c.in-Err.ensures.made)
