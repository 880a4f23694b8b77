-- Slots that are written.
use Rattle.std.proofs.Common.{◌≡◌, ◌≢◌, ℕ, ◌+◌, ◌<◌, ◌≤◌, List, [], ◌∷◌, ◌++◌, length, length-append, set, refl, ap, sym, ◌∙◌, arith, subst, ⊎_elim, get_or-set_other, get_or-set_same, length-set}
use Rattle.std.specs.Prelude.{true, false, cond, ◌==◌, nat_eq, Some, None, slice_index_or}
use Rattle.std.proofs.lemmas.Bool.{cases_eq, cases_lt}
use Rattle.std.proofs.lemmas.Bool.Decides.{Decides-eqb}
use Rattle.std.proofs.lemmas.List.{get_or_past, get_or_default}
use Rattle.std.proofs.Math.ListN.{get_or-append}
use Rattle.std.proofs.Math.Seq.{get_or-append_seam}
use Rattle.node_table.specs.declared.node.Node.{Node}
use Rattle.node_table.specs.declared.arrays.Slot.{Slot}
use Rattle.node_table.specs.Unfold.{is_valid}
use Rattle.node_table.specs.Hash.{bucket_of}
use Rattle.node_table.specs.Chains.{IsChained, IsPlace, head_in}
use Rattle.node_table.specs.Arrays.{node_of, empty_slot, slot_at, node_in, chain_in}
use Rattle.node_table.proofs.Unfolds.{found_from_valid}
use Rattle.node_table.proofs.Chaining.{chained_head, chained_place}

-- a number that has a node is within the slots
pub node_within : (slots : List Slot) (k : ℕ) (s : Node) → node_in slots k ≡ Some s → k < length slots
node_within slots k s e = ⊎_elim (λ (q : k < length slots). q) (λ (q : length slots ≤ k). (let x = ap node_of (get_or_past slots k empty_slot q) in absurd (none_some s (sym x ∙ e)))) (cases_lt k (length slots))
  where
    none_some : (s : Node) → None ≡ Some s → ⊥
    none_some s e = cc

-- the node of a slot whose children differ
pub node_of-node : (n : Node) (chain : ℕ) → n.low ≢ n.high → node_of (record { node = n; chain = chain }) ≡ Some n
node_of-node n chain a = elim (nat_eq n.low n.high) as (λ b. nat_eq n.low n.high ≡ b → cond b None (Some n) ≡ Some n) [ true ↦ λ i. absurd (a ((Decides-eqb n.low n.high).0 i)) | false ↦ λ i. refl ] refl

module _ (slots : List Slot) (number : ℕ) (n : Node) (chain : ℕ) (apart : n.low ≢ n.high) (fits : number < length slots) where
  pub written : (h : ℕ) → node_in (set slots number (record { node = n; chain = chain })) h ≡ cond (h == number) (Some n) (node_in slots h)
  written h = elim (h == number) as (λ b. (h == number) ≡ b → node_in (set slots number (record { node = n; chain = chain })) h ≡ cond b (Some n) (node_in slots h)) [
    | true ↦ λ i.
        let e : h ≡ number = (Decides-eqb h number).0 i in
        ap (λ k. node_in (set slots number (record { node = n; chain = chain })) k) e ∙ ap node_of (get_or-set_same slots number (record { node = n; chain = chain }) empty_slot fits) ∙ node_of-node n chain apart
    | false ↦ λ i. ap node_of (get_or-set_other slots number h (record { node = n; chain = chain }) empty_slot (λ q. (let t = (Decides-eqb h number).1 q in cc)))
  ] refl

  pub written_own : chain_in (set slots number (record { node = n; chain = chain })) number ≡ chain
  written_own = ap (λ (s : Slot). s.chain) (get_or-set_same slots number (record { node = n; chain = chain }) empty_slot fits)

  pub written_other : (h : ℕ) → h ≢ number → chain_in (set slots number (record { node = n; chain = chain })) h ≡ chain_in slots h
  written_other h a = ap (λ (s : Slot). s.chain) (get_or-set_other slots number h (record { node = n; chain = chain }) empty_slot a)

-- a slot whose link alone changes keeps its node
pub relinked : (slots : List Slot) (p chain : ℕ) → p < length slots → (h : ℕ) → node_in (set slots p (record { node = (slot_at slots p).node; chain = chain })) h ≡ node_in slots h
relinked slots p chain fits h =
    ⊎_elim
    (λ (q : h ≡ p). subst (λ z. node_in (set slots p (record { node = (slot_at slots p).node; chain = chain })) z ≡ node_in slots z) (sym q)
    (ap node_of (get_or-set_same slots p (record { node = (slot_at slots p).node; chain = chain }) empty_slot fits)))
    (λ (q : h ≢ p). ap node_of (get_or-set_other slots p h (record { node = (slot_at slots p).node; chain = chain }) empty_slot q))
    (cases_eq h p)

module _ (slots : List Slot) (heads : List ℕ) (bucket number : ℕ) (n : Node) (c : IsChained (node_in slots) (chain_in slots) heads (length slots)) (belongs : bucket ≡ bucket_of (length heads) n) (within : bucket < length heads)
    (apart : n.low ≢ n.high) (free : node_in slots number ≡ None) (two : 2 ≤ number) (fits : number < length slots) where
  pub linked_head : (first : ℕ) → first ≡ head_in heads bucket → first < number → let new : List Slot = set slots number (record { node = n; chain = first }) in IsChained (node_in new) (chain_in new) (set heads bucket number) (length new)
  linked_head first e below =
      let new : List Slot = set slots number (record { node = n; chain = first }) in
      subst (λ l. IsChained (node_in new) (chain_in new) (set heads bucket number) l) (sym (length-set slots number (record { node = n; chain = first })))
      (chained_head (node_in slots) (chain_in slots) heads (length slots) c (node_within slots) (node_in new) (chain_in new) number bucket n free two (written slots number n first apart fits) belongs within
      (set heads bucket number) (length slots) refl (omega (arith, e, below)) fits (omega arith) (written_own slots number n first apart fits ∙ e) (written_other slots number n first apart fits))

  pub linked_place : (p : ℕ) → IsPlace (node_in slots) (chain_in slots) (length heads) bucket number p →
      let mid : List Slot = set slots number (record { node = n; chain = chain_in slots p }) in
      let new : List Slot = set mid p (record { node = (slot_at mid p).node; chain = number }) in
      IsChained (node_in new) (chain_in new) heads (length new)
  linked_place p x =
      let mid : List Slot = set slots number (record { node = n; chain = chain_in slots p }) in
      let new : List Slot = set mid p (record { node = (slot_at mid p).node; chain = number }) in
      let long : length mid ≡ length slots = length-set slots number (record { node = n; chain = chain_in slots p }) in
      let in_slots = node_within slots p x.real.0 x.real.1 in
      let p_in : p < length mid = omega (arith, long, in_slots) in
      let number_not_p : number ≢ p = λ e. omega (arith, x.above, e) in
      subst (λ l. IsChained (node_in new) (chain_in new) heads l) (sym (length-set mid p (record { node = (slot_at mid p).node; chain = number }) ∙ long))
      (chained_place (node_in slots) (chain_in slots) heads (length slots) c (node_within slots) (node_in new) (chain_in new) number bucket n free two
      (λ h. relinked mid p number p_in h ∙ written slots number n (chain_in slots p) apart fits h) belongs within p x
      (ap (λ (s : Slot). s.chain) (get_or-set_other mid p number (record { node = (slot_at mid p).node; chain = number }) empty_slot number_not_p) ∙ written_own slots number n (chain_in slots p) apart fits)
      (ap (λ (s : Slot). s.chain) (get_or-set_same mid p (record { node = (slot_at mid p).node; chain = number }) empty_slot p_in))
      (λ h a b. ap (λ (s : Slot). s.chain) (get_or-set_other mid p h (record { node = (slot_at mid p).node; chain = number }) empty_slot b) ∙ written_other slots number n (chain_in slots p) apart fits h a))

-- a slot behind the others
module _ (slots : List Slot) (n : Node) (chain : ℕ) (apart : n.low ≢ n.high) where
  pub appended : (h : ℕ) → node_in (slots ++ record { node = n; chain = chain } ∷ []) h ≡ cond (h == length slots) (Some n) (node_in slots h)
  appended h = ⊎_elim
      (λ (q : h < length slots).
      let e : (h == length slots) ≡ false = (let a : h ≢ length slots = λ i. omega (arith, i, q) in unequal h (length slots) a) in
      ap node_of (get_or-append slots (record { node = n; chain = chain } ∷ []) empty_slot h q) ∙ sym (ap (λ b. cond b (Some n) (node_in slots h)) e))
      (λ (q : length slots ≤ h). ⊎_elim
      (λ (i : h ≡ length slots).
      ap (λ k. node_in (slots ++ record { node = n; chain = chain } ∷ []) k) i ∙ ap node_of (get_or-append_seam slots (record { node = n; chain = chain }) [] empty_slot) ∙ node_of-node n chain apart
      ∙ sym (ap (λ b. cond b (Some n) (node_in slots h)) ((Decides-eqb h (length slots)).1 i)))
      (λ (i : h ≢ length slots).
      let long : length (slots ++ record { node = n; chain = chain } ∷ []) ≤ h = omega (arith, q, i, length-append slots (record { node = n; chain = chain } ∷ [])) in
      ap node_of (get_or_past (slots ++ record { node = n; chain = chain } ∷ []) h empty_slot long) ∙ sym (ap node_of (get_or_past slots h empty_slot q)) ∙ sym (ap (λ b. cond b (Some n) (node_in slots h)) (unequal h (length slots) i)))
      (cases_eq h (length slots)))
      (cases_lt h (length slots))
    where
      unequal : (a b : ℕ) → a ≢ b → (a == b) ≡ false
      unequal a b e = elim (a == b) as (λ x. (a == b) ≡ x → x ≡ false) [ true ↦ λ i. absurd (e ((Decides-eqb a b).0 i)) | false ↦ λ i. refl ] refl

  pub appended_own : chain_in (slots ++ record { node = n; chain = chain } ∷ []) (length slots) ≡ chain
  appended_own = ap (λ (s : Slot). s.chain) (get_or-append_seam slots (record { node = n; chain = chain }) [] empty_slot)

  pub appended_other : (h : ℕ) → h ≢ length slots → chain_in (slots ++ record { node = n; chain = chain } ∷ []) h ≡ chain_in slots h
  appended_other h a = ⊎_elim
      (λ (q : h < length slots). ap (λ (s : Slot). s.chain) (get_or-append slots (record { node = n; chain = chain } ∷ []) empty_slot h q))
      (λ (q : length slots ≤ h).
      let long : length (slots ++ record { node = n; chain = chain } ∷ []) ≤ h = omega (arith, q, a, length-append slots (record { node = n; chain = chain } ∷ [])) in
      ap (λ (s : Slot). s.chain) (get_or_past (slots ++ record { node = n; chain = chain } ∷ []) h empty_slot long) ∙ sym (ap (λ (s : Slot). s.chain) (get_or_past slots h empty_slot q)))
      (cases_lt h (length slots))

  module _ (heads : List ℕ) (bucket : ℕ) (c : IsChained (node_in slots) (chain_in slots) heads (length slots)) (belongs : bucket ≡ bucket_of (length heads) n) (within : bucket < length heads) (two : 2 ≤ length slots) (first : chain ≡ head_in heads bucket) where
    pub linked_last : let new : List Slot = slots ++ record { node = n; chain = chain } ∷ [] in IsChained (node_in new) (chain_in new) (set heads bucket (length slots)) (length new)
    linked_last =
        let new : List Slot = slots ++ record { node = n; chain = chain } ∷ [] in
        let long : length new ≡ length slots + 1 = length-append slots (record { node = n; chain = chain } ∷ []) in
        chained_head (node_in slots) (chain_in slots) heads (length slots) c (node_within slots) (node_in new) (chain_in new) (length slots) bucket n
        (ap node_of (get_or_past slots (length slots) empty_slot (omega arith))) two appended belongs within
        (set heads bucket (length slots)) (length new) refl (c.head bucket within).below (omega (arith, long)) (omega (arith, long)) (appended_own ∙ first) appended_other

-- a slot that was read
pub slot_read : (slots : List Slot) (k : ℕ) (s : Slot) → k < length slots → s ≡ slice_index_or slots k s → s ≡ slot_at slots k
slot_read slots k s l e = e ∙ get_or_default slots k s empty_slot l

-- a number's node is the one that its slot holds
pub own_node : (slots : List Slot) (k : ℕ) (n : Node) → node_in slots k ≡ Some n → node_in slots k ≡ Some (slot_at slots k).node
own_node slots k n e = of_slot (slot_at slots k) e
  where
    of_slot : (s : Slot) → node_of s ≡ Some n → node_of s ≡ Some s.node
    of_slot s e = elim (nat_eq s.node.low s.node.high) as (λ b. cond b None (Some s.node) ≡ Some n → cond b None (Some s.node) ≡ Some s.node) [ true ↦ λ e. cc | false ↦ λ e. refl ] e

-- a valid number has a slot
pub valid_within : (slots : List Slot) (h : ℕ) → 2 ≤ length slots → is_valid (node_in slots) h ≡ true → h < length slots
valid_within slots h two v = ⊎_elim (λ (q : h < 2). omega (arith, q, two)) (λ (q : 2 ≤ h). (let n = found_from_valid (node_in slots) h q v in node_within slots h n.0 n.1)) (cases_lt h 2)
