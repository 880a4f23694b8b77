-- Slots without a mark become free, from the last one down.
use Rattle.std.proofs.Common.{◌≡◌, ◌≢◌, ℕ, ◌+◌, ◌<◌, ◌≤◌, List, length, set, refl, ap, sym, ◌∙◌, arith, subst, ⊎_elim, get_or-set_other, get_or-set_same}
use Rattle.std.specs.Prelude.{Bool, true, false, cond, ◌&&◌, not, nat_le, Option, Some, None}
use Rattle.std.proofs.lemmas.Bool.{cases_eq, cases_lt}
use Rattle.std.proofs.lemmas.Bool.Decides.{nat_tests}
use Rattle.node_table.specs.declared.node.Node.{Node}
use Rattle.node_table.specs.declared.arrays.Slot.{Slot}
use Rattle.node_table.specs.Chains.{IsNextFree, IsFree}
use Rattle.node_table.specs.Arrays.{node_of, empty_slot, node_in, chain_in}
use Rattle.node_table.specs.Marks.{has_mark, is_kept, MarksNodes, swept_from}
use Rattle.node_table.proofs.Marking.{mark_from_kept}

-- the slots from a number on are swept
pub record Sweeps (f g : ℕ → Option Node) (chain : ℕ → ℕ) (marks : List ℕ) (round at free limit : ℕ) : Type 0 where
  pub two : 2 ≤ at
  pub within : at ≤ limit
  pub left : (h : ℕ) → g h ≡ swept_from f marks round at h
  pub start : (b : ℕ) → b + 1 ≡ at → IsNextFree g limit free b
  pub link : (h : ℕ) → at ≤ h → h < limit → g h ≡ None → IsNextFree g limit (chain h) h

yes_le : (a b : ℕ) → a ≤ b → nat_le a b ≡ true
yes_le a b l = grind (arith, nat_tests)

no_le : (a b : ℕ) → b < a → nat_le a b ≡ false
no_le a b l = grind (arith, nat_tests)

-- a number before the first swept one has its node
pub not_yet : (f : ℕ → Option Node) (marks : List ℕ) (round at h : ℕ) → h < at → swept_from f marks round at h ≡ f h
not_yet f marks round at h l = ap (λ b. cond (b && not (is_kept marks round h)) None (f h)) (no_le at h l)

pub swept_kept : (f : ℕ → Option Node) (marks : List ℕ) (round at h : ℕ) → is_kept marks round h ≡ true → swept_from f marks round at h ≡ f h
swept_kept f marks round at h k = ap (λ b. cond (nat_le at h && not b) None (f h)) k ∙ both (nat_le at h)
  where
    both : (b : Bool) → cond (b && false) None (f h) ≡ f h
    both true = refl
    both false = refl

pub swept_gone : (f : ℕ → Option Node) (marks : List ℕ) (round at h : ℕ) → at ≤ h → is_kept marks round h ≡ false → swept_from f marks round at h ≡ None
swept_gone f marks round at h l k = ap (λ b. cond (b && not (is_kept marks round h)) None (f h)) (yes_le at h l) ∙ ap (λ b. cond (not b) None (f h)) k

-- one number more matters at that number alone
next_same : (f : ℕ → Option Node) (marks : List ℕ) (round at h : ℕ) → h ≢ at → swept_from f marks round at h ≡ swept_from f marks round (at + 1) h
next_same f marks round at h a = ap (λ b. cond (b && not (is_kept marks round h)) None (f h)) (same at h a)
  where
    same : (a h : ℕ) → h ≢ a → nat_le a h ≡ nat_le (a + 1) h
    same a h e = grind (arith, nat_tests)

-- what lies above is as before
moved : (g k : ℕ → Option Node) (limit n h : ℕ) → ((j : ℕ) → h < j → k j ≡ g j) → IsNextFree g limit n h → IsNextFree k limit n h
moved g k limit n h same x = record {
  real = λ q. (let r = x.real q in (r.0, r.1, same n r.0 ∙ r.2));
  least = λ j l m e. x.least j l m (sym (same j l) ∙ e);
}

pub sweeps_none : (f : ℕ → Option Node) (chain : ℕ → ℕ) (marks : List ℕ) (round limit : ℕ) → 2 ≤ limit → ((h : ℕ) → limit ≤ h → f h ≡ None) → Sweeps f f chain marks round limit 0 limit
sweeps_none f chain marks round limit two past = record {
  two = two;
  within = omega arith;
  left = λ h. ⊎_elim (λ (q : h < limit). sym (not_yet f marks round limit h q)) (λ (q : limit ≤ h). past h q ∙ sym (none_both (nat_le limit h && not (is_kept marks round h)) (f h) (past h q))) (cases_lt h limit);
  start = λ b e. record { real = λ q. absurd (q refl); least = λ k l m i. absurd (omega (arith, e, l, m)) };
  link = λ h l m e. absurd (omega (arith, l, m));
}
  where
    none_both : (b : Bool) (o : Option Node) → o ≡ None → cond b None o ≡ None
    none_both true o e = refl
    none_both false o e = e

module _ (f g : ℕ → Option Node) (chain : ℕ → ℕ) (marks : List ℕ) (round at free limit : ℕ) (x : Sweeps f g chain marks round (at + 1) free limit) (two : 2 ≤ at) where
  pub sweeps_kept : MarksNodes f marks round → has_mark marks round at ≡ true → Sweeps f g chain marks round at free limit
  sweeps_kept nodes marked =
      let kept : is_kept marks round at ≡ true = mark_from_kept marks round at two ∙ marked in
      let n = nodes at marked in
      let here : g at ≡ Some n.0 = x.left at ∙ not_yet f marks round (at + 1) at (omega arith) ∙ n.1 in
      record {
        two = two;
        within = omega (arith, x.within);
        left = λ h. x.left h ∙ ⊎_elim
            (λ (q : h ≡ at). subst (λ z. swept_from f marks round (at + 1) z ≡ swept_from f marks round at z) (sym q) (swept_kept f marks round (at + 1) at kept ∙ sym (swept_kept f marks round at at kept)))
            (λ (q : h ≢ at). sym (next_same f marks round at h q)) (cases_eq h at);
        start = λ b e.
            (let s = x.start at refl in record {
              real = λ q. (let r = s.real q in (omega (arith, r.0, e), r.1, r.2));
              least = λ k l m i. ⊎_elim (λ (q : k ≡ at). absurd (none_some n.0 (sym (ap g (sym q) ∙ i) ∙ here))) (λ (q : k ≢ at). s.least k (omega (arith, l, e, q)) m i) (cases_eq k at);
            });
        link = λ h l m e. ⊎_elim (λ (q : h ≡ at). absurd (none_some n.0 (sym (ap g (sym q) ∙ e) ∙ here))) (λ (q : h ≢ at). x.link h (omega (arith, l, q)) m e) (cases_eq h at);
      }
    where
      none_some : (s : Node) → None ≡ Some s → ⊥
      none_some s e = cc

  pub sweeps_gone : (k : ℕ → Option Node) (next : ℕ → ℕ) → has_mark marks round at ≡ false → k at ≡ None → ((h : ℕ) → h ≢ at → k h ≡ g h) → next at ≡ free → ((h : ℕ) → h ≢ at → next h ≡ chain h) → Sweeps f k next marks round at at limit
  sweeps_gone k next unmarked gone others own rest =
      let unkept : is_kept marks round at ≡ false = mark_from_kept marks round at two ∙ unmarked in
      record {
        two = two;
        within = omega (arith, x.within);
        left = λ h. ⊎_elim
            (λ (q : h ≡ at). subst (λ z. k z ≡ swept_from f marks round at z) (sym q) (gone ∙ sym (swept_gone f marks round at at (omega arith) unkept)))
            (λ (q : h ≢ at). others h q ∙ x.left h ∙ sym (next_same f marks round at h q)) (cases_eq h at);
        start = λ b e. record { real = λ q. (omega (arith, e), omega (arith, x.within), gone); least = λ j l m i. ((λ z. omega (arith, z, two)), omega (arith, l, e)) };
        link = λ h l m e. ⊎_elim
            (λ (q : h ≡ at). subst (λ z. IsNextFree k limit (next z) z) (sym q) (subst (λ n. IsNextFree k limit n at) (sym own)
            (moved g k limit free at (λ j p. others j (λ i. omega (arith, i, p))) (x.start at refl))))
            (λ (q : h ≢ at). subst (λ n. IsNextFree k limit n h) (sym (rest h q))
            (moved g k limit (chain h) h (λ j p. others j (λ i. omega (arith, i, p, l, q))) (x.link h (omega (arith, l, q)) m (sym (others h q) ∙ e))))
            (cases_eq h at);
      }

pub free_at_end : (f g : ℕ → Option Node) (chain : ℕ → ℕ) (marks : List ℕ) (round at free limit : ℕ) → Sweeps f g chain marks round at free limit → at ≤ 2 → IsFree g chain free limit
free_at_end f g chain marks round at free limit x l = record { start = x.start 1 (omega (arith, x.two, l)); link = λ h a b e. x.link h (omega (arith, a, l)) b e }

-- a slot that is emptied
module _ (slots : List Slot) (at chain : ℕ) (fits : at < length slots) where
  pub emptied_here : node_in (set slots at (record { node = record { level = 0; low = 0; high = 0 }; chain = chain })) at ≡ None
  emptied_here = ap node_of (get_or-set_same slots at (record { node = record { level = 0; low = 0; high = 0 }; chain = chain }) empty_slot fits)

  pub emptied_other : (h : ℕ) → h ≢ at → node_in (set slots at (record { node = record { level = 0; low = 0; high = 0 }; chain = chain })) h ≡ node_in slots h
  emptied_other h a = ap node_of (get_or-set_other slots at h (record { node = record { level = 0; low = 0; high = 0 }; chain = chain }) empty_slot a)

  pub emptied_own : chain_in (set slots at (record { node = record { level = 0; low = 0; high = 0 }; chain = chain })) at ≡ chain
  emptied_own = ap (λ (s : Slot). s.chain) (get_or-set_same slots at (record { node = record { level = 0; low = 0; high = 0 }; chain = chain }) empty_slot fits)

  pub emptied_rest : (h : ℕ) → h ≢ at → chain_in (set slots at (record { node = record { level = 0; low = 0; high = 0 }; chain = chain })) h ≡ chain_in slots h
  emptied_rest h a = ap (λ (s : Slot). s.chain) (get_or-set_other slots at h (record { node = record { level = 0; low = 0; high = 0 }; chain = chain }) empty_slot a)
