use Rattle.std.proofs.Common.{◌≡◌, ◌<◌, ◌∙◌, length, ap, sym, arith, subst}
use Rattle.std.specs.Prelude.{Some, slice_index_or}
use Rattle.std.proofs.lemmas.List.{get_or_default}
use Rattle.node_table.specs.Table.{IsValid, note_of}
use Rattle.node_table.specs.Arrays.{notes_of}
use Rattle.node_table.proofs.Standing.{valid_fits, back, forth}
use Rattle.node_table.proofs.Rounds.{read_note}
use Rattle.node_table.proofs.table.NodeTable.note.Goals as goal

pub index-requires : goal.index-requires
index-requires c =
    let v = back IsValid _ c.args.self.now c.h.inside.number c.args.h c.self.view_is c.h.view_is c.requires in
    let within = valid_fits c.self.inside.room c.self.inside.slots.items c.self.inside.heads.items (notes_of c.self.inside.marks.items c.self.inside.found.items c.self.inside.round) c.self.inside.free c.self.invariant.0.linked c.h.inside.number v in
    omega (arith, within, c.self.invariant.0.marked)

pub returns : goal.returns
returns c =
    let v = back IsValid _ c.args.self.now c.h.inside.number c.args.h c.self.view_is c.h.view_is c.requires in
    let within = valid_fits c.self.inside.room c.self.inside.slots.items c.self.inside.heads.items (notes_of c.self.inside.marks.items c.self.inside.found.items c.self.inside.round) c.self.inside.free c.self.invariant.0.linked c.h.inside.number v in
    let fits : c.h.inside.number < length c.self.inside.marks.items = omega (arith, within, c.self.invariant.0.marked) in
    let value : c.read.result ≡ slice_index_or c.self.inside.found.items c.h.inside.number 0 = c.read.ensures ∙ ap (λ xs. slice_index_or xs c.h.inside.number 0) c.deref.ensures.value in
    forth (λ t x y. Some c.read.result ≡ note_of t x) _ c.args.self.now c.h.inside.number c.args.h c.h.inside.number c.args.h c.self.view_is c.h.view_is c.h.view_is
    (read_note c.self.inside.room c.self.inside.slots.items c.self.inside.marks.items c.self.inside.found.items c.self.inside.round c.self.invariant.0.started c.h.inside.number c.index.result.now c.read.result
    (c.index.ensures ∙ get_or_default c.self.inside.marks.items c.h.inside.number c.index.result.now 0 fits) c.if-index-self.false value)
