-- Which variable's codes don't suffice for an event.
use Rattle.std.proofs.Common.{◌≡◌, ℕ, zero, suc, ◌+◌, ◌^◌, ◌<◌, ◌≤◌, ◌⊎◌, inl, inr, ⊎_elim, refl, sym, ap, subst, arith, true, false, Some, None}
use Rattle.std.specs.Prelude.{nat_le}
use Rattle.std.proofs.lemmas.Bool.{cases_lt}
use Rattle.std.proofs.lemmas.Bool.Decides.{leb_tells}
use Rattle.monitor_model.specs.Ends.{codes_from}

module _ (bits : ℕ) (needs : ℕ → ℕ) where
  -- whether x needs too many codes
  abbrev Told : ℕ → Type 0
  Told x =
      ((nat_le (2 ^ bits) (needs x) ≡ true) × (2 ^ bits ≤ needs x)) ⊎
      ((nat_le (2 ^ bits) (needs x) ≡ false) × (needs x < 2 ^ bits))

  none_here : (x n : ℕ) → needs x < 2 ^ bits → codes_from bits needs (x + 1) n ≡ None →
      Told x →
      codes_from bits needs x (suc n) ≡ None
  none_here x n few rest (inl q) = let many = q.1 in absurd (omega (arith, few, many))
  none_here x n few rest (inr q) = rw q.0 rest

  -- of the n variables from x on none needs too many
  pub none_full : (x n : ℕ) → ((y : ℕ) → x ≤ y → y < x + n → needs y < 2 ^ bits) →
      codes_from bits needs x n ≡ None
  none_full x zero h = refl
  none_full x (suc n) h =
      none_here x n (h x (omega arith) (omega arith))
      (none_full (x + 1) n (λ y from to. h y (omega arith) (omega arith)))
      (leb_tells (2 ^ bits) (needs x))

  full_here : (x n k : ℕ) → 2 ^ bits ≤ needs k → k ≡ x →
      Told x →
      codes_from bits needs x (suc n) ≡ Some (k, needs k)
  full_here x n k many same (inl q) = rw q.0 (ap (λ (j : ℕ). Some (j, needs j)) (sym same))
  full_here x n k many same (inr q) =
      let enough = subst (λ (j : ℕ). 2 ^ bits ≤ needs j) same many in
      let few = q.1 in
      absurd (omega (arith, enough, few))

  full_later : (x n k : ℕ) → needs x < 2 ^ bits →
      codes_from bits needs (x + 1) n ≡ Some (k, needs k) →
      Told x →
      codes_from bits needs x (suc n) ≡ Some (k, needs k)
  full_later x n k few rest (inl q) = let many = q.1 in absurd (omega (arith, few, many))
  full_later x n k few rest (inr q) = rw q.0 rest

  -- k is the first that does
  pub first_full : (x n k : ℕ) → x ≤ k → k < x + n →
      ((y : ℕ) → x ≤ y → y < k → needs y < 2 ^ bits) → 2 ^ bits ≤ needs k →
      codes_from bits needs x n ≡ Some (k, needs k)
  first_full x zero k from to h many = absurd (omega arith)
  first_full x (suc n) k from to h many =
      ⊎_elim
      (λ (later : x < k).
      full_later x n k (h x (omega arith) later)
      (first_full (x + 1) n k (omega arith) (omega arith) (λ y p r. h y (omega arith) r) many)
      (leb_tells (2 ^ bits) (needs x)))
      (λ (here : k ≤ x). full_here x n k many (omega arith) (leb_tells (2 ^ bits) (needs x)))
      (cases_lt x k)
