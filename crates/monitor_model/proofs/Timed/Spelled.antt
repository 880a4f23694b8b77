-- What an age tree's values say of its ages.
use Rattle.std.proofs.Common.{◌≡◌, ℕ, ◌+◌, ◌^◌, ◌<◌, ◌≤◌, ◌↔◌, inl, refl, sym, ap, ◌∙◌, subst, arith, List, Bool, IsTrue, Option, Some, None}
use Rattle.std.specs.Prelude.{IfSome}
use Rattle.qtl_truth.specs.declared.event.Event.{Event}
use Rattle.qtl_truth.specs.Truth.{Claim}
use Rattle.node_tree.specs.Tree.{Tree, value}
use Rattle.subformulas.specs.Memory.{IsLeastAge, IsGreatestAge}
use Rattle.subformulas.proofs.Ages.{Rises, delta}
use Rattle.subformulas.proofs.Agree.{joined}
use Rattle.subformulas.proofs.Deciding.{EachDecided}
use Rattle.timed_bits.specs.Ages.{spelled, is_age, SameBefore, HasAges}
use Rattle.timed_bits.specs.Changes.{since_within, since_beyond}
use Rattle.monitor_model.proofs.Spelling.Bits.{spell}
use Rattle.monitor_model.proofs.Timed.Nexts.{Is, past_is, least_next, greatest_next}

at_some : (o : Option ℕ) (P : ℕ → Type 0) (a : ℕ) → IfSome o P → o ≡ Some a → P a
at_some None P a h e = let no : ⊥ = cc in absurd no
at_some (Some b) P a h e = let f : b ≡ a = cc in subst P f h

module _ (first width : ℕ) (t : Tree) (age : List Bool → Option ℕ) (ages : HasAges first width t age) where
  -- the bits that spell a number in the block, and are the same before it
  at_number : (bits : List Bool) (a : ℕ) → a < 2 ^ width → (other : List Bool) × SameBefore first bits other × SameBefore first other bits × (spelled other first width ≡ a)
  at_number bits a l =
      let (other, outside, e) = spell first width a bits l in
      (other, (λ k p. sym (outside k (inl p))), (λ k p. outside k (inl p)), e)

  value_is : (bits : List Bool) (a : ℕ) → spelled bits first width ≡ a → IsTrue (value t bits) ↔ (age bits ≡ Some a)
  value_is bits a e =
      subst (λ (b : Bool). IsTrue b ↔ (age bits ≡ Some a)) (sym (ages.values bits ∙ ap (is_age (age bits)) e)) (past_is (age bits) a)

  -- where the values are what M says of the number that the bits spell, the age is what M says
  pub ages_are : (M : List Bool → ℕ → Type 0) → ((bits : List Bool) → IsTrue (value t bits) ↔ M bits (spelled bits first width)) →
      ((bits other : List Bool) (a : ℕ) → SameBefore first bits other → M bits a → M other a) → ((bits : List Bool) (a : ℕ) → M bits a → a < 2 ^ width) → (bits : List Bool) → Is (age bits) (M bits)
  ages_are M drawn same small bits a = (
    λ e. let l : a < 2 ^ width = at_some (age bits) (λ b. b < 2 ^ width) a (ages.fits bits) e in
        let (other, there, back, s) = at_number bits a l in
        let f : age other ≡ Some a = sym (ages.before bits other there) ∙ e in
        let m : M other (spelled other first width) = (drawn other).0 ((value_is other a s).1 f) in
        same other bits a back (subst (M other) s m),
    λ m. let l = small bits a m in
        let (other, there, back, s) = at_number bits a l in
        let n : M other (spelled other first width) = subst (M other) (sym s) (same bits other a there m) in
        ages.before bits other there ∙ (value_is other a s).0 ((drawn other).1 n),
  )

  -- and back
  pub draws_ages : (M : List Bool → ℕ → Type 0) → ((bits : List Bool) → Is (age bits) (M bits)) → (bits : List Bool) → IsTrue (value t bits) ↔ M bits (spelled bits first width)
  draws_ages M h bits = joined (value_is bits (spelled bits first width) refl) (h bits (spelled bits first width))

-- a tree with the ages that the rows of f S[<=n] g make of a remembered one draws what is remembered after the event
pub least_drawn : (first width n : ℕ) (log : List Event) (f g : List Bool → Claim) (m i : ℕ) (t e : Tree) (age : List Bool → Option ℕ) (x y : List Bool → Bool) → Rises log m → i + 1 ≤ m →
    HasAges first width t age → ((bits : List Bool) → IsTrue (value t bits) ↔ IsLeastAge log n (f bits) (g bits) i (spelled bits first width)) →
    ((bits other : List Bool) (a : ℕ) → SameBefore first bits other → IsLeastAge log n (f bits) (g bits) i a → IsLeastAge log n (f other) (g other) i a) → n < 2 ^ width →
    ((bits : List Bool) → IsTrue (x bits) ↔ f bits (i + 1)) → ((bits : List Bool) → IsTrue (y bits) ↔ g bits (i + 1)) →
    HasAges first width e (λ bits. since_within n (delta log (f bits) (g bits) i) (x bits) (y bits) (age bits)) →
    (bits : List Bool) → IsTrue (value e bits) ↔ IsLeastAge log n (f bits) (g bits) (i + 1) (spelled bits first width)
least_drawn first width n log f g m i t e age x y rise w ages drawn same small p q made =
    let before = ages_are first width t age ages (λ bits a. IsLeastAge log n (f bits) (g bits) i a) drawn same (λ bits a h. let l = h.0 in omega arith) in
    draws_ages first width e (λ bits. since_within n (delta log (f bits) (g bits) i) (x bits) (y bits) (age bits)) made (λ bits a. IsLeastAge log n (f bits) (g bits) (i + 1) a)
    (λ bits. least_next log (f bits) (g bits) m i rise w n (x bits) (y bits) (age bits) (p bits) (q bits) (before bits))

-- the same of f S[>n] g
pub greatest_drawn : (first width n : ℕ) (log : List Event) (f g : List Bool → Claim) (m i : ℕ) (t e : Tree) (age : List Bool → Option ℕ) (x y : List Bool → Bool) → Rises log m → i + 1 ≤ m →
    ((bits : List Bool) → EachDecided (f bits)) → ((bits : List Bool) → EachDecided (g bits)) →
    HasAges first width t age → ((bits : List Bool) → IsTrue (value t bits) ↔ IsGreatestAge log n (f bits) (g bits) i (spelled bits first width)) →
    ((bits other : List Bool) (a : ℕ) → SameBefore first bits other → IsGreatestAge log n (f bits) (g bits) i a → IsGreatestAge log n (f other) (g other) i a) → n + 1 < 2 ^ width →
    ((bits : List Bool) → IsTrue (x bits) ↔ f bits (i + 1)) → ((bits : List Bool) → IsTrue (y bits) ↔ g bits (i + 1)) →
    HasAges first width e (λ bits. since_beyond n (delta log (f bits) (g bits) i) (x bits) (y bits) (age bits)) →
    (bits : List Bool) → IsTrue (value e bits) ↔ IsGreatestAge log n (f bits) (g bits) (i + 1) (spelled bits first width)
greatest_drawn first width n log f g m i t e age x y rise w df dg ages drawn same small p q made =
    let before = ages_are first width t age ages (λ bits a. IsGreatestAge log n (f bits) (g bits) i a) drawn same (λ bits a ((j, k, l, (s, h)), each). omega arith) in
    draws_ages first width e (λ bits. since_beyond n (delta log (f bits) (g bits) i) (x bits) (y bits) (age bits)) made (λ bits a. IsGreatestAge log n (f bits) (g bits) (i + 1) a)
    (λ bits. greatest_next log (f bits) (g bits) m i rise w n (x bits) (y bits) (age bits) (df bits) (dg bits) (p bits) (q bits) (before bits))
