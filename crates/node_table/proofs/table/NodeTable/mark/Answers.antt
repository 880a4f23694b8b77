use Rattle.std.proofs.Common.{◌≡◌, ℕ, ◌<◌, length, set, length-set, ap, sym, ◌∙◌, arith, subst}
use Rattle.std.specs.Prelude.{true, false, cond, not, nat_eq, ◌==◌, IsTrue, ◌↔◌}
use Rattle.std.proofs.lemmas.List.{get_or_default}
use Rattle.node_table.specs.Table.{IsValid, is_marked}
use Rattle.node_table.specs.Arrays.{notes_of, table_of}
use Rattle.node_table.proofs.Standing.{valid_fits, back, forth}
use Rattle.node_table.proofs.Rounds.{marked_at, set_rounds, set_marked, was_unmarked}
use Rattle.node_table.proofs.table.NodeTable.mark.Goals as goal

pub index_mut-mark-requires : goal.index_mut-mark-requires
index_mut-mark-requires c =
    let kept = c.self.invariant.0 in
    let v = back IsValid _ c.args.self.now c.h.inside.number c.args.h c.self.view_is c.h.view_is c.requires in
    let within = valid_fits c.self.inside.room c.self.inside.slots.items c.self.inside.heads.items (notes_of c.self.inside.marks.items c.self.inside.found.items c.self.inside.round) c.self.inside.free kept.linked c.h.inside.number v in
    omega (arith, within, kept.marked)

pub invariant_of-self : goal.invariant_of-self
invariant_of-self c =
    let within = valid_fits c.self.inside.room c.self.inside.slots.items c.self.inside.heads.items (notes_of c.self.inside.marks.items c.self.inside.found.items c.self.inside.round) c.self.inside.free c.self.invariant.0.linked c.h.inside.number
    (back IsValid _ c.args.self.now c.h.inside.number c.args.h c.self.view_is c.h.view_is c.requires) in
    let fits : c.h.inside.number < length c.self.inside.marks.items = omega (arith, within, c.self.invariant.0.marked) in
    let kept = c.self.invariant.0 in (
      record {
        linked = kept.linked;
        marked = length-set c.self.inside.marks.items c.h.inside.number c.self.inside.round ∙ kept.marked;
        rounds = set_rounds c.self.inside.marks.items c.self.inside.round c.h.inside.number fits kept.rounds;
        started = kept.started;
        count = kept.count;
      },
      c.self.invariant.1,
      c.self.invariant.2,
      c.self.invariant.3,
    )

pub returns-clause-first : goal.returns-clause-first
returns-clause-first c =
    let within = valid_fits c.self.inside.room c.self.inside.slots.items c.self.inside.heads.items (notes_of c.self.inside.marks.items c.self.inside.found.items c.self.inside.round) c.self.inside.free c.self.invariant.0.linked c.h.inside.number
    (back IsValid _ c.args.self.now c.h.inside.number c.args.h c.self.view_is c.h.view_is c.requires) in
    let fits : c.h.inside.number < length c.self.inside.marks.items = omega (arith, within, c.self.invariant.0.marked) in
    let kept = c.self.invariant.0 in
    forth (λ t x y. IsTrue (not (nat_eq c.index_mut-mark.result.now c.self.inside.round)) ↔ (is_marked t x ≡ false)) _ c.args.self.now c.h.inside.number c.args.h c.h.inside.number c.args.h c.self.view_is c.h.view_is c.h.view_is
    (subst (λ b. IsTrue (not b) ↔ (is_marked (table_of c.self.inside.room c.self.inside.slots.items (notes_of c.self.inside.marks.items c.self.inside.found.items c.self.inside.round)) c.h.inside.number ≡ false))
    (marked_at c.self.inside.room c.self.inside.slots.items c.self.inside.marks.items c.self.inside.found.items c.self.inside.round kept.started c.h.inside.number ∙ ap (λ m. nat_eq m c.self.inside.round) (sym (c.index_mut-mark.ensures.value ∙ get_or_default c.self.inside.marks.items c.h.inside.number c.index_mut-mark.result.now 0 fits)))
    (was_unmarked (is_marked (table_of c.self.inside.room c.self.inside.slots.items (notes_of c.self.inside.marks.items c.self.inside.found.items c.self.inside.round)) c.h.inside.number)))

pub returns-clause-marked : goal.returns-clause-marked
returns-clause-marked c =
    let within = valid_fits c.self.inside.room c.self.inside.slots.items c.self.inside.heads.items (notes_of c.self.inside.marks.items c.self.inside.found.items c.self.inside.round) c.self.inside.free c.self.invariant.0.linked c.h.inside.number
    (back IsValid _ c.args.self.now c.h.inside.number c.args.h c.self.view_is c.h.view_is c.requires) in
    let fits : c.h.inside.number < length c.self.inside.marks.items = omega (arith, within, c.self.invariant.0.marked) in
    let kept = c.self.invariant.0 in
    let marks = c.self.inside.marks.items in
    forth (λ t x y. (k : ℕ) → is_marked (table_of c.self.inside.room c.self.inside.slots.items (notes_of (set marks c.h.inside.number c.self.inside.round) c.self.inside.found.items c.self.inside.round)) k ≡ cond (k == x) true (is_marked t k)) _ c.args.self.now c.h.inside.number c.args.h c.h.inside.number c.args.h c.self.view_is c.h.view_is c.h.view_is
    (set_marked marks c.self.inside.round c.h.inside.number fits c.self.inside.room c.self.inside.slots.items c.self.inside.found.items kept.started)
