use Rattle.std.proofs.Common.{◌≡◌, ℕ, ◌<◌, ◌*◌, List, length, take, drop, ◌++◌, ap, sym, subst, arith, ◌∙◌}
use Rattle.std.specs.Prelude.{None}
use Rattle.std.proofs.lemmas.List.{length-replicate}
use Rattle.node_table.specs.declared.arrays.Slot.{Slot}
use Rattle.node_table.specs.Arrays.{notes_of, node_in, chain_in, table_of, IsKept}
use Rattle.node_table.proofs.Keeping.{came_back}
use Rattle.node_table.proofs.Widening.{kept_widened, table_stays}
use Rattle.node_table.proofs.table.NodeTable.widen_when_full.Goals as goal

-- what relinking leaves of each slot
nodes : (c : goal.After-self-2-1) → (h : ℕ) → node_in c.relink.new.slots h ≡ node_in c.self.inside.slots.items h
nodes c = subst (λ (s : List Slot). (h : ℕ) → node_in c.relink.new.slots h ≡ node_in s h) c.deref_mut.ensures.value c.relink.ensures.nodes

frees : (c : goal.After-self-2-1) → (h : ℕ) → node_in c.self.inside.slots.items h ≡ None → chain_in c.relink.new.slots h ≡ chain_in c.self.inside.slots.items h
frees c = subst (λ (s : List Slot). (h : ℕ) → node_in s h ≡ None → chain_in c.relink.new.slots h ≡ chain_in s h) c.deref_mut.ensures.value c.relink.ensures.frees

-- the arrays come back from the slices as they were left
slots_back : (c : goal.After-self-2-1) → take c.self.inside.slots.len (c.relink.new.slots ++ drop (length c.relink.new.slots) c.self.inside.slots.items) ≡ c.relink.new.slots
slots_back c = let long : c.self.inside.slots.len ≡ length c.relink.new.slots = omega arith in came_back c.self.inside.slots.len c.relink.new.slots _ long

heads_back : (c : goal.After-self-2-1) → take c.set_up.new.heads.len (c.relink.new.heads ++ drop (length c.relink.new.heads) c.set_up.new.heads.items) ≡ c.relink.new.heads
heads_back c = let long : c.set_up.new.heads.len ≡ length c.relink.new.heads = omega arith in came_back c.set_up.new.heads.len c.relink.new.heads _ long

pub invariant_of-self : goal.invariant_of-self
invariant_of-self c =
    let s = c.self.inside in
    let long : length c.relink.new.slots ≡ length s.slots.items = omega arith in
    let many : length c.set_up.new.heads.items ≡ c.len-buckets.result * 2 = ap (λ (hs : List ℕ). length hs) c.set_up.ensures.empty ∙ length-replicate (c.len-buckets.result * 2) 0 in
    let some : 0 < length c.relink.new.heads = omega (arith, many, c.self.invariant.0.linked.buckets) in
    let kept = kept_widened s.slots.items c.relink.new.slots (nodes c) long (frees c) s.room s.heads.items s.marks.items s.free s.round s.live c.self.invariant.0 c.relink.new.heads some c.relink.ensures.chained in (
      subst (λ (z : List Slot). IsKept s.room z (take c.set_up.new.heads.len (c.relink.new.heads ++ drop (length c.relink.new.heads) c.set_up.new.heads.items)) s.marks.items s.free s.round s.live) (sym (slots_back c))
          (subst (λ (hs : List ℕ). IsKept s.room c.relink.new.slots hs s.marks.items s.free s.round s.live) (sym (heads_back c)) kept),
      c.self.invariant.1,
      c.self.invariant.2,
      c.self.invariant.3,
    )

pub returns : goal.returns
returns c =
    let s = c.self.inside in
    let long : length c.relink.new.slots ≡ length s.slots.items = omega arith in
    ap (λ (z : List Slot). table_of s.room z (notes_of s.marks.items s.found.items s.round)) (slots_back c) ∙ table_stays s.slots.items c.relink.new.slots (nodes c) long s.room (notes_of s.marks.items s.found.items s.round) ∙ c.self.view_is
