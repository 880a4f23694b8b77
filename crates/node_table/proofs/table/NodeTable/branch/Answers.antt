use Rattle.std.proofs.Common.{◌≡◌, ◌<◌, length, ap, sym, subst, arith, ◌∙◌}
use Rattle.std.specs.Prelude.{Some}
use Rattle.node_table.specs.declared.arrays.Slot.{Slot}
use Rattle.node_tree.specs.Tree.{Branch}
use Rattle.node_table.specs.Table.{IsShared, IsValid, tree_of}
use Rattle.node_table.specs.Arrays.{notes_of}
use Rattle.node_table.proofs.Sharing.{shared}
use Rattle.node_table.proofs.Standing.{is_table, has_slot, told_node, back, forth}
use Rattle.node_table.proofs.Writing.{slot_read}
use Rattle.node_table.proofs.table.NodeTable.branch.Goals as goal

pub index-requires : goal.index-requires
index-requires g c =
    let v = back IsValid _ c.args.self.now c.h.inside.number c.args.h c.self.view_is c.h.view_is c.requires in
    let within : c.h.inside.number < length c.self.inside.slots.items = (has_slot c.self.inside.room c.self.inside.slots.items c.self.inside.heads.items (notes_of c.self.inside.marks.items c.self.inside.found.items c.self.inside.round) c.self.inside.free c.self.invariant.0.linked c.h.inside.number v (λ e. omega (arith, e)) (λ e. omega (arith, e))).1 in
    omega (arith, within)

pub returns-in-0-clause-shared : goal.returns-in-0-clause-shared
returns-in-0-clause-shared g c = subst IsShared c.self.view_is (shared _ (is_table c.self.inside.room c.self.inside.slots.items c.self.inside.heads.items (notes_of c.self.inside.marks.items c.self.inside.found.items c.self.inside.round) c.self.inside.free c.self.invariant.0.linked))

pub returns-in-1-clause-tells : goal.returns-in-1-clause-tells
returns-in-1-clause-tells g c = ap (tree_of c.args.self.now) (sym c.h.view_is ∙ c.in-1.is) ∙ (subst IsShared c.self.view_is (shared _ (is_table c.self.inside.room c.self.inside.slots.items c.self.inside.heads.items (notes_of c.self.inside.marks.items c.self.inside.found.items c.self.inside.round) c.self.inside.free c.self.invariant.0.linked))).one.1

pub returns-in-1-clause-shared : goal.returns-in-1-clause-shared
returns-in-1-clause-shared g c = subst IsShared c.self.view_is (shared _ (is_table c.self.inside.room c.self.inside.slots.items c.self.inside.heads.items (notes_of c.self.inside.marks.items c.self.inside.found.items c.self.inside.round) c.self.inside.free c.self.invariant.0.linked))

pub returns-in_default-clause-tells : goal.returns-in_default-clause-tells
returns-in_default-clause-tells g c =
    let v = back IsValid _ c.args.self.now c.h.inside.number c.args.h c.self.view_is c.h.view_is c.requires in
    let has = has_slot c.self.inside.room c.self.inside.slots.items c.self.inside.heads.items (notes_of c.self.inside.marks.items c.self.inside.found.items c.self.inside.round) c.self.inside.free c.self.invariant.0.linked c.h.inside.number v (λ e. omega (arith, e)) (λ e. omega (arith, e)) in
    let read = slot_read c.self.inside.slots.items c.h.inside.number c.index.result.now has.1 c.index.ensures in
    forth (λ t x y. (tree_of t x ≡ Branch c.index.result.now.node.level (tree_of t c.index.result.now.node.low) (tree_of t c.index.result.now.node.high)) × IsValid t c.index.result.now.node.low × IsValid t c.index.result.now.node.high)
    _ c.args.self.now c.h.inside.number c.args.h c.h.inside.number c.args.h c.self.view_is c.h.view_is c.h.view_is
    (told_node c.self.inside.room c.self.inside.slots.items c.self.inside.heads.items (notes_of c.self.inside.marks.items c.self.inside.found.items c.self.inside.round) c.self.inside.free c.self.invariant.0.linked c.h.inside.number c.index.result.now.node
    (has.0 ∙ ap (λ (s : Slot). Some s.node) (sym read)))

pub returns-in_default-clause-shared : goal.returns-in_default-clause-shared
returns-in_default-clause-shared g c = subst IsShared c.self.view_is (shared _ (is_table c.self.inside.room c.self.inside.slots.items c.self.inside.heads.items (notes_of c.self.inside.marks.items c.self.inside.found.items c.self.inside.round) c.self.inside.free c.self.invariant.0.linked))
