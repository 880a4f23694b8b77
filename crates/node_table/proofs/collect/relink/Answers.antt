use Rattle.std.proofs.Common.{◌≡◌, ◌<◌, ◌≤◌, ◌+◌, ℕ, List, length, set, subst, arith, sym, ap, get_or-set_same, get_or-set_other}
use Rattle.std.specs.Prelude.{slice_index_or, None, Some, cond}
use Rattle.std.proofs.lemmas.List.{get_or_past}
use Rattle.std.proofs.lemmas.Bool.Decides.{Decides-eqb}
use Rattle.node_table.specs.declared.arrays.Slot.{Slot}
use Rattle.node_table.specs.Chains.{IsChained}
use Rattle.node_table.specs.Arrays.{node_of, empty_slot, slot_at, node_in, chain_in}
use Rattle.node_table.proofs.Relinking.{Relinks, relinks_free, relinks_node, chained_at_end}
use Rattle.node_table.proofs.Writing.{node_of-node, relinked}
use Rattle.node_table.proofs.collect.relink.Goals as goal
use Rattle.node_table.proofs.collect.relink.Goals.{then-node, else-node}

-- a slot whose children are equal is free
free_slot : (s : Slot) → s.node.low ≡ s.node.high → node_of s ≡ None
free_slot s e = ap (λ b. cond b None (Some s.node)) ((Decides-eqb s.node.low s.node.high).1 e)

pub loop-at-preserved : goal.loop-at-preserved
loop-at-preserved c =
    let f = node_in c.args.slots.now in
    let first = chain_in c.args.slots.now in
    let s : Slot = slot_at c.loop-at.slots c.loop-at.at in
    let fits : c.loop-at.at < length c.loop-at.slots = omega arith in
    let two : 2 ≤ c.loop-at.at = omega arith in
    elim c.if-node.branch [
      | then-node w ↦
          let bucket = w.bucket_of-bucket.result in
          let chain : ℕ = slice_index_or c.loop-at.heads bucket 0 in
          let new : List Slot = set c.loop-at.slots c.loop-at.at (record { node = s.node; chain = chain }) in
          let node : node_in c.loop-at.slots c.loop-at.at ≡ Some s.node = node_of-node s.node s.chain w.if-node.true in
          subst (λ (z : List Slot). Relinks f first (node_in z) (chain_in z) c.if-node.heads (c.loop-at.at + 1)) (sym w.slots-is)
          (subst (λ (hs : List ℕ). Relinks f first (node_in new) (chain_in new) hs (c.loop-at.at + 1)) (sym w.heads-is)
          (relinks_node f first (node_in c.loop-at.slots) (chain_in c.loop-at.slots) c.loop-at.heads c.loop-at.at c.loop-at.invariant two (node_in new) (chain_in new) s.node bucket node
          w.bucket_of-bucket.ensures.bucket w.bucket_of-bucket.ensures.within (relinked c.loop-at.slots c.loop-at.at chain fits)
          (ap (λ (z : Slot). z.chain) (get_or-set_same c.loop-at.slots c.loop-at.at (record { node = s.node; chain = chain }) empty_slot fits))
          (λ h a. ap (λ (z : Slot). z.chain) (get_or-set_other c.loop-at.slots c.loop-at.at h (record { node = s.node; chain = chain }) empty_slot a))))
      | else-node w ↦
          subst (λ (z : List Slot). Relinks f first (node_in z) (chain_in z) c.if-node.heads (c.loop-at.at + 1)) (sym w.slots-is)
          (subst (λ (hs : List ℕ). Relinks f first (node_in c.loop-at.slots) (chain_in c.loop-at.slots) hs (c.loop-at.at + 1)) (sym w.heads-is)
          (relinks_free f first (node_in c.loop-at.slots) (chain_in c.loop-at.slots) c.loop-at.heads c.loop-at.at c.loop-at.invariant two (free_slot s w.if-node.false)))
    ]

pub returns-clause-chained : goal.returns-clause-chained
returns-clause-chained c =
    let end : c.loop-at.at ≡ length c.loop-at.slots = omega arith in
    subst (λ n. IsChained (node_in c.loop-at.slots) (chain_in c.loop-at.slots) c.loop-at.heads n) end
    (chained_at_end (node_in c.args.slots.now) (chain_in c.args.slots.now) (node_in c.loop-at.slots) (chain_in c.loop-at.slots) c.loop-at.heads c.loop-at.at c.loop-at.invariant
    (λ h l. ap node_of (get_or_past c.loop-at.slots h empty_slot (omega (arith, l, end)))))
