-- Whether remembered trees tell a code apart: some tree differs at some bits.
use Rattle.std.proofs.Common.{◌≡◌, ◌≢◌, ℕ, zero, suc, ◌+◌, ◌-◌, ◌^◌, ◌<◌, ◌⊎◌, ◌↔◌, inl, inr, refl, sym, ◌∙◌, subst, arith, List, [], ◌∷◌, Bool, true, false, IsTrue}
use Rattle.std.specs.Prelude.{slice_get, IsSomeAnd, if◌then◌else◌}
use Rattle.std.specs.List.{AllByRecursion, Any}
use Rattle.std.proofs.lemmas.Nat.{pow_pos}
use Rattle.subformulas.specs.declared.table.Sub.{Sub}
use Rattle.subformulas.specs.Memory.{is_temporal, IsTemporal}
use Rattle.subformulas.proofs.Agree.{joined}
use Rattle.node_tree.specs.Tree.{Tree, IsOrdered, IsReduced, value}
use Rattle.bdd_ops.specs.Reading.{with_code}
use Rattle.code_reclaim.specs.Told.{told_apart, IsToldApart}
use Rattle.code_reclaim.proofs.Telling.{HasBits, told_apart_tells}
use Rattle.timed_bits.specs.Ages.{spelled}
use Rattle.monitor_model.specs.Operations.{SameOutside}
use Rattle.monitor_model.specs.Rows.{of_temporal}
use Rattle.monitor_model.specs.Setting.{Setting, first_of}
use Rattle.monitor_model.proofs.Spelling.Codes.{with_code_outside, with_code_spells, value_with_code}

-- a tree differs between the code and all ones in a block
abbrev pub IsApart : (first n c : ℕ) → Tree → Type 0
IsApart first n c t =
    (b : List Bool) × (other : List Bool) × SameOutside first n b other × (spelled b first n ≡ c) × (spelled other first n ≡ 2 ^ n - 1) × (value t b ≢ value t other)

apart_bits : (first n c : ℕ) (t : Tree) → c < 2 ^ n → HasBits first n c t ↔ IsApart first n c t
apart_bits first n c t h = (
  λ (others, d). (
    with_code others first n c,
    with_code others first n (2 ^ n - 1),
    λ l p. with_code_outside others first n (2 ^ n - 1) l p ∙ sym (with_code_outside others first n c l p),
    with_code_spells others first n c h,
    with_code_spells others first n (2 ^ n - 1) (let q = pow_pos n in omega arith),
    d,
  ),
  λ (b, other, o, s, ones, d). (b, λ e. d (sym (value_with_code t b b first n c (λ l p. refl) s) ∙ (e ∙ value_with_code t b other first n (2 ^ n - 1) o ones))),
)

any_same : (P Q : Tree → Type 0) (trees : List Tree) → ((t : Tree) → P t ↔ Q t) → Any P trees ↔ Any Q trees
any_same P Q trees h = (λ (k, t, l, e, p). (k, t, l, e, (h t).0 p), λ (k, t, l, e, p). (k, t, l, e, (h t).1 p))

-- trees tell a code apart where one of them differs between the code and all ones
pub told_apart_bits : (trees : List Tree) (first n c : ℕ) → c < 2 ^ n → IsToldApart trees first n c ↔ Any (IsApart first n c) trees
told_apart_bits trees first n c h = any_same _ (IsApart first n c) trees (λ t. apart_bits first n c t h)

module _ (P : Tree → Type 0) where
  any_split : (t : Tree) (ts : List Tree) → Any P (t ∷ ts) → P t ⊎ Any P ts
  any_split t ts (zero, u, l, e, p) = inl (subst P (sym e) p)
  any_split t ts (suc k, u, l, e, p) = inr (k, u, omega (arith, l), e, p)

  any_later : (t : Tree) (ts : List Tree) → Any P ts → Any P (t ∷ ts)
  any_later t ts (k, u, l, e, p) = (suc k, u, omega (arith, l), e, p)

  -- some remembered tree, of the temporal subformulas from number n on
  abbrev SomeFrom : (ℕ → Tree) → ℕ → List Sub → Type 0
  SomeFrom memory n subs = (j : ℕ) × IsSomeAnd (slice_get subs j) (λ s. IsTrue (is_temporal s.kind)) × P (memory (n + j))

  some_later : (memory : ℕ → Tree) (n : ℕ) (s : Sub) (subs : List Sub) → SomeFrom memory (n + 1) subs → SomeFrom memory n (s ∷ subs)
  some_later memory n s subs (j, h, p) = let e : n + 1 + j ≡ n + suc j = omega arith in (suc j, h, subst (λ (k : ℕ). P (memory k)) e p)

  from_list : (memory : ℕ → Tree) (n : ℕ) (subs : List Sub) → Any P (of_temporal memory n subs) → SomeFrom memory n subs
  from_list memory n [] (k, t, l, e, p) = absurd (omega (arith, l))
  from_list memory n (s ∷ subs) h = by_test (is_temporal s.kind) refl (from_list memory (n + 1) subs) h
    where
      by_test : (b : Bool) → is_temporal s.kind ≡ b → (Any P (of_temporal memory (n + 1) subs) → SomeFrom memory (n + 1) subs) →
          Any P (if b then memory n ∷ of_temporal memory (n + 1) subs else of_temporal memory (n + 1) subs) → SomeFrom memory n (s ∷ subs)
      by_test true e f h = by_place (any_split (memory n) (of_temporal memory (n + 1) subs) h)
        where
          by_place : P (memory n) ⊎ Any P (of_temporal memory (n + 1) subs) → SomeFrom memory n (s ∷ subs)
          by_place (inl p) = let g : n ≡ n + 0 = omega arith in (0, e, subst (λ (k : ℕ). P (memory k)) g p)
          by_place (inr q) = some_later memory n s subs (f q)
      by_test false e f h = some_later memory n s subs (f h)

  to_list : (memory : ℕ → Tree) (n : ℕ) (subs : List Sub) → SomeFrom memory n subs → Any P (of_temporal memory n subs)
  to_list memory n [] (j, h, p) = absurd h
  to_list memory n (s ∷ subs) (zero, h, p) =
      let g : n + 0 ≡ n = omega arith in
      subst (λ b. Any P (if b then memory n ∷ of_temporal memory (n + 1) subs else of_temporal memory (n + 1) subs)) (sym h) (0, memory n, omega arith, refl, subst (λ (k : ℕ). P (memory k)) g p)
  to_list memory n (s ∷ subs) (suc j, h, p) =
      let g : n + suc j ≡ n + 1 + j = omega arith in
      by_test (is_temporal s.kind) (to_list memory (n + 1) subs (j, h, subst (λ (k : ℕ). P (memory k)) g p))
    where
      by_test : (b : Bool) → Any P (of_temporal memory (n + 1) subs) → Any P (if b then memory n ∷ of_temporal memory (n + 1) subs else of_temporal memory (n + 1) subs)
      by_test true h = any_later (memory n) (of_temporal memory (n + 1) subs) h
      by_test false h = h

  -- the remembered trees are those of the temporal subformulas
  pub any_memory : (memory : ℕ → Tree) (subs : List Sub) → Any P (of_temporal memory 1 subs) ↔ ((k : ℕ) × IsTemporal subs k × P (memory k))
  any_memory memory subs = (
    λ h. let (j, t, p) = from_list memory 1 subs h in let e : j ≡ 1 + j - 1 = omega arith in (1 + j, (omega arith, subst (λ (i : ℕ). IsSomeAnd (slice_get subs i) (λ s. IsTrue (is_temporal s.kind))) e t), p),
    λ (k, t, p). let one = t.0 in let e : k ≡ 1 + (k - 1) = omega arith in to_list memory 1 subs (k - 1, t.1, subst (λ (i : ℕ). P (memory i)) e p),
  )

  -- what holds of each remembered tree holds of each of the list
  each_from : (memory : ℕ → Tree) (n : ℕ) (subs : List Sub) →
      ((j : ℕ) → IsSomeAnd (slice_get subs j) (λ s. IsTrue (is_temporal s.kind)) →
      P (memory (n + j))) → AllByRecursion P (of_temporal memory n subs)
  each_from memory n [] h = tt
  each_from memory n (s ∷ subs) h =
      by_test (is_temporal s.kind) refl
      (each_from memory (n + 1) subs (λ j t.
      let e : n + suc j ≡ n + 1 + j = omega arith in
      subst (λ (k : ℕ). P (memory k)) e (h (suc j) t)))
    where
      by_test : (b : Bool) → is_temporal s.kind ≡ b →
          AllByRecursion P (of_temporal memory (n + 1) subs) →
          AllByRecursion P
          (if b then memory n ∷ of_temporal memory (n + 1) subs
          else of_temporal memory (n + 1) subs)
      by_test true e rest =
          let g : n + 0 ≡ n = omega arith in
          (subst (λ (k : ℕ). P (memory k)) g (h 0 e), rest)
      by_test false e rest = rest

  pub each_memory : (memory : ℕ → Tree) (subs : List Sub) →
      ((k : ℕ) → IsTemporal subs k → P (memory k)) → AllByRecursion P (of_temporal memory 1 subs)
  each_memory memory subs h =
      each_from memory 1 subs (λ j t.
      let e : j ≡ 1 + j - 1 = omega arith in
      h (1 + j) (
        omega arith,
        subst (λ (i : ℕ). IsSomeAnd (slice_get subs i) (λ s. IsTrue (is_temporal s.kind))) e t,
      ))

-- some remembered tree differs between the code and all ones in the block of x
abbrev pub SomeApart : Setting → (memory : ℕ → Tree) → (x c : ℕ) → Type 0
SomeApart s memory x c =
    (k : ℕ) × IsTemporal s.subs k × IsApart (first_of s x) s.bits c (memory k)

-- the test of remembered trees, which are ordered and reduced, says whether some tree does
pub told_apart_is : (s : Setting) (memory : ℕ → Tree) (x c : ℕ) → c < 2 ^ s.bits →
    ((k : ℕ) → IsTemporal s.subs k → IsOrdered (memory k)) →
    ((k : ℕ) → IsTemporal s.subs k → IsReduced (memory k)) →
    (told_apart (of_temporal memory 1 s.subs) (first_of s x) s.bits c ≡ true) ↔
    SomeApart s memory x c
told_apart_is s memory x c h ordered reduced =
    let trees = of_temporal memory 1 s.subs in
    joined (told_apart_tells trees (first_of s x) s.bits c
    (each_memory IsOrdered memory s.subs ordered) (each_memory IsReduced memory s.subs reduced))
    (joined (told_apart_bits trees (first_of s x) s.bits c h)
    (any_memory (IsApart (first_of s x) s.bits c) memory s.subs))
