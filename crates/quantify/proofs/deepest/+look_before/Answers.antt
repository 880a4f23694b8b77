use Rattle.std.proofs.Common.{◌≡◌, ◌<◌, ℕ, sym, subst}
use Rattle.std.specs.Prelude.{Bool, false}
use Rattle.node_tree.specs.Tree.{Zero, depth}
use Rattle.node_table.specs.Table.{Table, tree_of, IsValid}
use Rattle.quantify.specs.Cut.{cut, IsBefore, Looks}
use Rattle.quantify.proofs.LookStages.{looked, begun, valid_low, less_low, found_low, valid_high, less_high, found_high, done}
use Rattle.quantify.proofs.deepest.+look_before.Goals as goal

pub returns-in-Err-clause-looks : goal.returns-in-Err-clause-looks
returns-in-Err-clause-looks g t c =
    let v = subst (λ (t : Table). IsValid t c.in-Err.answer × (tree_of t c.in-Err.answer ≡ cut false c.args.level (tree_of t c.args.h))) c.table-2.ensures c.in-Err.ensures.done in
    subst (λ (b : Bool). Looks c.args.level c.args.h c.args.store.now.table c.args.store.now.table c.args.steps.now c.node_before.new.steps b) (sym c.eq.ensures)
    (looked c.args.level c.args.h c.args.store.now.table c.args.steps.now c.requires.valid c.requires.noted c.node_before.new.steps c.node_before.ensures.cost c.in-Err.answer v.1)

pub look_before-requires : goal.look_before-requires
look_before-requires g t c κs inside = (
  subst (λ (n : ℕ). depth (tree_of c.take_note.new.self.table c.in-Ok.node.low) < n) c.decreases (less_low c.args.level c.args.h c.args.store.now.table c.args.steps.now c.requires.valid c.requires.noted c.node_before.new.steps c.node_before.ensures.cost c.in-Ok.node.level c.in-Ok.node.low c.in-Ok.node.high (subst (λ t. IsBefore t c.args.h c.args.level c.in-Ok.node.level c.in-Ok.node.low c.in-Ok.node.high) c.table-2.ensures c.in-Ok.ensures.node) c.in_default.ensures c.zero-zero.result (subst (λ (t : Table). tree_of t c.zero-zero.result ≡ Zero) c.table.ensures c.zero-zero.ensures.tree) c.take_note.new.self.table c.take_note.ensures.grows.keeps.room c.take_note.ensures.nodes c.take_note.ensures.noted c.take_note.ensures.within),
  (inside, (valid_low c.args.level c.args.h c.args.store.now.table c.args.steps.now c.requires.valid c.requires.noted c.node_before.new.steps c.node_before.ensures.cost c.in-Ok.node.level c.in-Ok.node.low c.in-Ok.node.high (subst (λ t. IsBefore t c.args.h c.args.level c.in-Ok.node.level c.in-Ok.node.low c.in-Ok.node.high) c.table-2.ensures c.in-Ok.ensures.node) c.in_default.ensures c.zero-zero.result (subst (λ (t : Table). tree_of t c.zero-zero.result ≡ Zero) c.table.ensures c.zero-zero.ensures.tree) c.take_note.new.self.table c.take_note.ensures.grows.keeps.room c.take_note.ensures.nodes c.take_note.ensures.noted c.take_note.ensures.within, begun c.args.level c.args.h c.args.store.now.table c.args.steps.now c.requires.valid c.requires.noted c.node_before.new.steps c.node_before.ensures.cost c.in-Ok.node.level c.in-Ok.node.low c.in-Ok.node.high (subst (λ t. IsBefore t c.args.h c.args.level c.in-Ok.node.level c.in-Ok.node.low c.in-Ok.node.high) c.table-2.ensures c.in-Ok.ensures.node) c.in_default.ensures c.zero-zero.result (subst (λ (t : Table). tree_of t c.zero-zero.result ≡ Zero) c.table.ensures c.zero-zero.ensures.tree) c.take_note.new.self.table c.take_note.ensures.grows.keeps.room c.take_note.ensures.nodes c.take_note.ensures.noted c.take_note.ensures.within)),
)

pub returns-then-not-look_before-clause-looks : goal.returns-then-not-look_before-clause-looks
returns-then-not-look_before-clause-looks g t c = found_low c.args.level c.args.h c.args.store.now.table c.args.steps.now c.requires.valid c.requires.noted c.node_before.new.steps c.node_before.ensures.cost c.in-Ok.node.level c.in-Ok.node.low c.in-Ok.node.high (subst (λ t. IsBefore t c.args.h c.args.level c.in-Ok.node.level c.in-Ok.node.low c.in-Ok.node.high) c.table-2.ensures c.in-Ok.ensures.node) c.in_default.ensures c.zero-zero.result (subst (λ (t : Table). tree_of t c.zero-zero.result ≡ Zero) c.table.ensures c.zero-zero.ensures.tree) c.take_note.new.self.table c.take_note.ensures.grows.keeps.room c.take_note.ensures.nodes c.take_note.ensures.noted c.take_note.ensures.within c.look_before.new.store.table c.look_before.new.steps c.look_before.result c.look_before.ensures.looks c.if-not-look_before.true

pub look_before-requires-2 : goal.look_before-requires-2
look_before-requires-2 g t c κs inside = (
  subst (λ (n : ℕ). depth (tree_of c.look_before.new.store.table c.in-Ok.node.high) < n) c.decreases (less_high c.args.level c.args.h c.args.store.now.table c.args.steps.now c.requires.valid c.requires.noted c.node_before.new.steps c.node_before.ensures.cost c.in-Ok.node.level c.in-Ok.node.low c.in-Ok.node.high (subst (λ t. IsBefore t c.args.h c.args.level c.in-Ok.node.level c.in-Ok.node.low c.in-Ok.node.high) c.table-2.ensures c.in-Ok.ensures.node) c.in_default.ensures c.zero-zero.result (subst (λ (t : Table). tree_of t c.zero-zero.result ≡ Zero) c.table.ensures c.zero-zero.ensures.tree) c.take_note.new.self.table c.take_note.ensures.grows.keeps.room c.take_note.ensures.nodes c.take_note.ensures.noted c.take_note.ensures.within c.look_before.new.store.table c.look_before.new.steps c.look_before.result c.look_before.ensures.looks),
  (inside, (valid_high c.args.level c.args.h c.args.store.now.table c.args.steps.now c.requires.valid c.requires.noted c.node_before.new.steps c.node_before.ensures.cost c.in-Ok.node.level c.in-Ok.node.low c.in-Ok.node.high (subst (λ t. IsBefore t c.args.h c.args.level c.in-Ok.node.level c.in-Ok.node.low c.in-Ok.node.high) c.table-2.ensures c.in-Ok.ensures.node) c.in_default.ensures c.zero-zero.result (subst (λ (t : Table). tree_of t c.zero-zero.result ≡ Zero) c.table.ensures c.zero-zero.ensures.tree) c.take_note.new.self.table c.take_note.ensures.grows.keeps.room c.take_note.ensures.nodes c.take_note.ensures.noted c.take_note.ensures.within c.look_before.new.store.table c.look_before.new.steps c.look_before.result c.look_before.ensures.looks, c.look_before.ensures.looks.noted)),
)

pub returns-then-not-look_before-2-clause-looks : goal.returns-then-not-look_before-2-clause-looks
returns-then-not-look_before-2-clause-looks g t c = found_high c.args.level c.args.h c.args.store.now.table c.args.steps.now c.requires.valid c.requires.noted c.node_before.new.steps c.node_before.ensures.cost c.in-Ok.node.level c.in-Ok.node.low c.in-Ok.node.high (subst (λ t. IsBefore t c.args.h c.args.level c.in-Ok.node.level c.in-Ok.node.low c.in-Ok.node.high) c.table-2.ensures c.in-Ok.ensures.node) c.in_default.ensures c.zero-zero.result (subst (λ (t : Table). tree_of t c.zero-zero.result ≡ Zero) c.table.ensures c.zero-zero.ensures.tree) c.take_note.new.self.table c.take_note.ensures.grows.keeps.room c.take_note.ensures.nodes c.take_note.ensures.noted c.take_note.ensures.within c.look_before.new.store.table c.look_before.new.steps c.look_before.result c.look_before.ensures.looks c.look_before-2.new.store.table c.look_before-2.new.steps c.look_before-2.result c.look_before-2.ensures.looks c.if-not-look_before-2.true

pub returns-clause-looks : goal.returns-clause-looks
returns-clause-looks g t c = done c.args.level c.args.h c.args.store.now.table c.args.steps.now c.requires.valid c.requires.noted c.node_before.new.steps c.node_before.ensures.cost c.in-Ok.node.level c.in-Ok.node.low c.in-Ok.node.high (subst (λ t. IsBefore t c.args.h c.args.level c.in-Ok.node.level c.in-Ok.node.low c.in-Ok.node.high) c.table-2.ensures c.in-Ok.ensures.node) c.in_default.ensures c.zero-zero.result (subst (λ (t : Table). tree_of t c.zero-zero.result ≡ Zero) c.table.ensures c.zero-zero.ensures.tree) c.take_note.new.self.table c.take_note.ensures.grows.keeps.room c.take_note.ensures.nodes c.take_note.ensures.noted c.take_note.ensures.within c.look_before.new.store.table c.look_before.new.steps c.look_before.result c.look_before.ensures.looks c.look_before-2.new.store.table c.look_before-2.new.steps c.look_before-2.result c.look_before-2.ensures.looks c.if-not-look_before.false c.if-not-look_before-2.false c.take_note-2.new.self.table c.take_note-2.ensures.grows.keeps.room c.take_note-2.ensures.nodes c.take_note-2.ensures.noted
