use Rattle.std.proofs.Common.{◌≡◌, ℕ, List, length, drop, sym, ap, subst, arith}
use Rattle.std.specs.Prelude.{Some, None, ◌==◌, cond}
use Rattle.std.proofs.lemmas.List.{get_or_past}
use Rattle.node_table.specs.declared.arrays.Slot.{Slot}
use Rattle.node_table.specs.Arrays.{node_in, chain_in, node_of, empty_slot, IsLinked, PutsNode}
use Rattle.node_table.proofs.Keeping.{came_back, linked_reused, linked_appended}
use Rattle.node_table.proofs.Writing.{slot_read}
use Rattle.node_table.proofs.arrays.hold.Goals as goal

pub returns-then-number-ne0-clause-some : goal.returns-then-number-ne0-clause-some
returns-then-number-ne0-clause-some c =
    let long : c.args.slots.now.len ≡ length c.link.new.slots = omega arith in
    let same : length c.link.new.slots ≡ length c.args.slots.now.items = omega arith in
    let first = c.requires.linked.free.start.real c.if-number-ne0.true in
    let put = subst (λ (old : List Slot). (h : ℕ) → node_in c.link.new.slots h ≡ cond (h == c.args.free.now) (Some c.args.node) (node_in old h)) c.deref_mut.ensures.value c.link.ensures.nodes in
    subst (λ (new : List Slot). PutsNode c.args.slots.now.items new c.args.node c.args.free.now) (sym (came_back c.args.slots.now.len c.link.new.slots (drop (length c.link.new.slots) c.args.slots.now.items) long))
    (record { free = first.2; two = omega (arith, first.0); inside = omega (arith, first.1, same); put = put })

pub returns-then-number-ne0-clause-linked : goal.returns-then-number-ne0-clause-linked
returns-then-number-ne0-clause-linked c =
    let long : c.args.slots.now.len ≡ length c.link.new.slots = omega arith in
    let same : length c.link.new.slots ≡ length c.args.slots.now.items = omega arith in
    let size : length c.link.new.heads ≡ length c.args.heads.now = omega arith in
    let first = c.requires.linked.free.start.real c.if-number-ne0.true in
    let put = subst (λ (old : List Slot). (h : ℕ) → node_in c.link.new.slots h ≡ cond (h == c.args.free.now) (Some c.args.node) (node_in old h)) c.deref_mut.ensures.value c.link.ensures.nodes in
    let frees = subst (λ (old : List Slot). (h : ℕ) → node_in c.link.new.slots h ≡ None → chain_in c.link.new.slots h ≡ chain_in old h) c.deref_mut.ensures.value c.link.ensures.frees in
    subst (λ (new : List Slot). IsLinked c.args.room new c.link.new.heads c.index.result.now.chain) (sym (came_back c.args.slots.now.len c.link.new.slots (drop (length c.link.new.slots) c.args.slots.now.items) long))
    (subst (λ f. IsLinked c.args.room c.link.new.slots c.link.new.heads f) (sym (ap (λ (s : Slot). s.chain) (slot_read c.args.slots.now.items c.args.free.now c.index.result.now first.1 c.index.ensures)))
    (linked_reused c.args.room c.args.slots.now.items c.link.new.slots c.args.heads.now c.link.new.heads c.args.node c.requires.apart c.requires.low c.requires.high c.requires.absent
    c.link.ensures.chained size c.args.free.now c.requires.linked c.if-number-ne0.true same put frees))

pub returns-clause-linked : goal.returns-clause-linked
returns-clause-linked c =
    let none : c.args.free.now ≡ 0 = omega arith in
    let number = c.append.ensures.number in
    let put = subst (λ n. (h : ℕ) → node_in c.append.new.slots.items h ≡ cond (h == n) (Some c.args.node) (node_in c.args.slots.now.items h)) number c.append.ensures.nodes in
    subst (λ f. IsLinked c.args.room c.append.new.slots.items c.append.new.heads f) (sym none)
    (linked_appended c.args.room c.args.slots.now.items c.append.new.slots.items c.args.heads.now c.append.new.heads c.args.node c.requires.apart c.requires.low c.requires.high c.requires.absent
    c.append.ensures.chained c.append.ensures.buckets (subst (λ f. IsLinked c.args.room c.args.slots.now.items c.args.heads.now f) none c.requires.linked)
    (omega arith) c.append.ensures.long (ap node_of (get_or_past c.args.slots.now.items (length c.args.slots.now.items) empty_slot (omega arith))) put)
