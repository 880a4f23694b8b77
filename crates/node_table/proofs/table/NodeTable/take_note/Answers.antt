use Rattle.std.proofs.Common.{◌≡◌, ◌<◌, ◌+◌, ◌∙◌, ℕ, length, set, length-set, ap, sym, arith, subst}
use Rattle.std.specs.Prelude.{Some, cond, ◌==◌, slice_index_or}
use Rattle.node_table.specs.Table.{IsValid, note_of}
use Rattle.node_table.specs.Arrays.{notes_of, table_of}
use Rattle.node_table.proofs.Standing.{valid_fits, back, forth}
use Rattle.node_table.proofs.Rounds.{set_rounds, set_noted}
use Rattle.node_table.proofs.table.NodeTable.take_note.Goals as goal

-- a valid handle has a slot
pub index_mut-requires : goal.index_mut-requires
index_mut-requires c =
    let v = back IsValid _ c.args.self.now c.h.inside.number c.args.h c.self.view_is c.h.view_is c.requires in
    let within = valid_fits c.self.inside.room c.self.inside.slots.items c.self.inside.heads.items (notes_of c.self.inside.marks.items c.self.inside.found.items c.self.inside.round) c.self.inside.free c.self.invariant.0.linked c.h.inside.number v in
    omega (arith, within, c.self.invariant.0.marked)

pub write-requires : goal.write-requires
write-requires c =
    let v = back IsValid _ c.args.self.now c.h.inside.number c.args.h c.self.view_is c.h.view_is c.requires in
    let within = valid_fits c.self.inside.room c.self.inside.slots.items c.self.inside.heads.items (notes_of c.self.inside.marks.items c.self.inside.found.items c.self.inside.round) c.self.inside.free c.self.invariant.0.linked c.h.inside.number v in
    record { room = omega (arith, within, c.self.invariant.0.linked.few, c.self.invariant.3) }

pub invariant_of-self : goal.invariant_of-self
invariant_of-self c =
    let v = back IsValid _ c.args.self.now c.h.inside.number c.args.h c.self.view_is c.h.view_is c.requires in
    let within = valid_fits c.self.inside.room c.self.inside.slots.items c.self.inside.heads.items (notes_of c.self.inside.marks.items c.self.inside.found.items c.self.inside.round) c.self.inside.free c.self.invariant.0.linked c.h.inside.number v in
    let fits : c.h.inside.number < length c.self.inside.marks.items = omega (arith, within, c.self.invariant.0.marked) in
    let kept = c.self.invariant.0 in (
      record {
        linked = kept.linked;
        marked = length-set c.self.inside.marks.items c.h.inside.number c.self.inside.round ∙ kept.marked;
        rounds = set_rounds c.self.inside.marks.items c.self.inside.round c.h.inside.number fits kept.rounds;
        started = kept.started;
        count = kept.count;
      },
      c.self.invariant.1,
      c.self.invariant.2,
      omega (arith, c.self.invariant.3, c.write.ensures.room),
    )

pub returns-clause-noted : goal.returns-clause-noted
returns-clause-noted c =
    let v = back IsValid _ c.args.self.now c.h.inside.number c.args.h c.self.view_is c.h.view_is c.requires in
    let within = valid_fits c.self.inside.room c.self.inside.slots.items c.self.inside.heads.items (notes_of c.self.inside.marks.items c.self.inside.found.items c.self.inside.round) c.self.inside.free c.self.invariant.0.linked c.h.inside.number v in
    let fits : c.h.inside.number < length c.self.inside.marks.items = omega (arith, within, c.self.invariant.0.marked) in
    forth (λ t x y. (k : ℕ) → note_of (table_of c.self.inside.room c.self.inside.slots.items (notes_of (set c.self.inside.marks.items c.h.inside.number c.self.inside.round) c.write.new.found.items c.self.inside.round)) k ≡ cond (k == x) (Some y) (note_of t k))
    _ c.args.self.now c.h.inside.number c.args.h c.found.inside.number c.args.found c.self.view_is c.h.view_is c.found.view_is
    (set_noted c.self.inside.marks.items c.self.inside.round c.h.inside.number fits c.self.inside.room c.self.inside.slots.items c.self.inside.found.items c.self.invariant.0.started c.write.new.found.items c.found.inside.number
    c.write.ensures.written)

pub returns-clause-within : goal.returns-clause-within
returns-clause-within c =
    let v = back IsValid _ c.args.self.now c.h.inside.number c.args.h c.self.view_is c.h.view_is c.requires in
    let within = valid_fits c.self.inside.room c.self.inside.slots.items c.self.inside.heads.items (notes_of c.self.inside.marks.items c.self.inside.found.items c.self.inside.round) c.self.inside.free c.self.invariant.0.linked c.h.inside.number v in
    omega (arith, within, c.self.invariant.0.linked.few, c.h.view_is)
