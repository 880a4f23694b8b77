-- A tree that draws at most one number of the block for each assignment of the bits before it is an age tree.
use Rattle.std.proofs.Common.{◌≡◌, ℕ, zero, suc, ◌^◌, ◌<◌, ◌≤◌, ◌⊎◌, ◌↔◌, inl, inr, ⊎_elim, refl, sym, ap, ◌∙◌, subst, arith, List, Bool, true, false, IsTrue, Option, Some, None}
use Rattle.std.specs.Prelude.{IfSome}
use Rattle.std.proofs.lemmas.Bool.{cases_Bool}
use Rattle.node_tree.specs.Tree.{Tree, IsOrdered, IsReduced, value}
use Rattle.subformulas.proofs.Agree.{joined, turned}
use Rattle.subformulas.proofs.Rows.{last_cases}
use Rattle.timed_bits.specs.Ages.{spelled, is_age, SameBefore, HasAges}
use Rattle.monitor_model.proofs.Spelling.Bits.{spell}
use Rattle.monitor_model.proofs.Timed.Nexts.{Is, past_is}

never : false ≡ true → ⊥
never e = cc

some_is : (a b : ℕ) → Some a ≡ Some b → a ≡ b
some_is a b e = cc

abbrev nothing : Option ℕ
nothing = None

none_some : (a : ℕ) → nothing ≡ Some a → ⊥
none_some a e = cc

same_bool : (a b : Bool) → IsTrue a ↔ IsTrue b → a ≡ b
same_bool true true h = refl
same_bool false false h = refl
same_bool true false h = absurd (never (h.0 refl))
same_bool false true h = absurd (never (h.1 refl))

-- two ages of which the same is said are one
same_age : (o p : Option ℕ) (M N : ℕ → Type 0) → Is o M → Is p N → ((a : ℕ) → M a ↔ N a) → o ≡ p
same_age None None M N h k e = refl
same_age (Some a) p M N h k e = sym ((k a).1 ((e a).0 ((h a).0 refl)))
same_age None (Some b) M N h k e = absurd (none_some b ((h b).1 ((e b).1 ((k b).0 refl))))

-- the last cases of a number below suc n
last : (a n : ℕ) → a < suc n → (a < n) ⊎ (a ≡ n)
last a zero l = inr (omega arith)
last a (suc n) l = ⊎_elim (λ p. inl (omega arith)) (λ p. inr (omega arith)) (last_cases n a (omega arith))

pub if_some : (o : Option ℕ) (P : ℕ → Type 0) → ((a : ℕ) → o ≡ Some a → P a) → IfSome o P
if_some None P h = tt
if_some (Some a) P h = h a refl

module _ (first width : ℕ) (t : Tree) (M : List Bool → ℕ → Type 0)
    (drawn : (bits : List Bool) → IsTrue (value t bits) ↔ M bits (spelled bits first width))
    (same : (bits other : List Bool) (a : ℕ) → SameBefore first bits other → M bits a → M other a)
    (small : (bits : List Bool) (a : ℕ) → M bits a → a < 2 ^ width)
    (one : (bits : List Bool) (a b : ℕ) → M bits a → M bits b → a ≡ b) where
  decided : (bits : List Bool) (a : ℕ) → a < 2 ^ width → M bits a ⊎ (¬ M bits a)
  decided bits a l =
      let (other, outside, e) = spell first width a bits l in
      let there : SameBefore first bits other = λ k p. sym (outside k (inl p)) in
      let back : SameBefore first other bits = λ k p. outside k (inl p) in
      ⊎_elim
      (λ v. inl (same other bits a back (subst (M other) e ((drawn other).0 v))))
      (λ v. inr (λ m. never (sym v ∙ (drawn other).1 (subst (M other) (sym e) (same bits other a there m)))))
      (cases_Bool (value t other))

  -- the number below n of which M speaks, if there is one
  abbrev Upto : List Bool → ℕ → Option ℕ → Type 0
  Upto bits n o = (a : ℕ) → (o ≡ Some a) ↔ ((a < n) × M bits a)

  look : (bits : List Bool) (n : ℕ) → n ≤ 2 ^ width → (o : Option ℕ) × Upto bits n o
  look bits zero l = (None, λ a. (λ e. absurd (none_some a e), λ (p, m). absurd (omega arith)))
  look bits (suc n) l = next (decided bits n (omega arith)) (look bits n (omega arith))
    where
      next : M bits n ⊎ (¬ M bits n) → (o : Option ℕ) × Upto bits n o → (o : Option ℕ) × Upto bits (suc n) o
      next (inl m) more = (
        Some n,
        λ a. (
          λ e. let s = some_is n a e in (omega arith, subst (M bits) s m),
          λ (p, k). ap (λ (b : ℕ). Some b) (one bits n a m k),
        ),
      )
      next (inr none) (o, h) = (
        o,
        λ a. (
          λ e. let (p, k) = (h a).0 e in (omega arith, k),
          λ (p, k). ⊎_elim (λ q. (h a).1 (q, k)) (λ s. absurd (none (subst (M bits) s k))) (last a n p),
        ),
      )

  pub age_of : List Bool → Option ℕ
  age_of bits = (look bits (2 ^ width) (omega arith)).0

  pub is_age_of : (bits : List Bool) → Is (age_of bits) (M bits)
  unfolding age_of look
  is_age_of bits a =
      let h = (look bits (2 ^ width) (omega arith)).1 a in
      (λ e. (h.0 e).1, λ m. h.1 (small bits a m, m))

  pub has_ages : IsOrdered t → IsReduced t → HasAges first width t age_of
  has_ages o r = record {
    ordered = o;
    reduced = r;
    fits = λ bits. if_some (age_of bits) (λ a. a < 2 ^ width) (λ a e. small bits a ((is_age_of bits a).0 e));
    before = λ bits other s. same_age (age_of bits) (age_of other) (M bits) (M other) (is_age_of bits) (is_age_of other)
        (λ a. (same bits other a s, same other bits a (λ k p. sym (s k p))));
    values = λ bits. same_bool (value t bits) (is_age (age_of bits) (spelled bits first width))
        (joined (drawn bits) (turned (joined (past_is (age_of bits) (spelled bits first width)) (is_age_of bits (spelled bits first width)))));
  }
