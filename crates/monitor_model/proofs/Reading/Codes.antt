-- The first variable whose codes do not suffice.
use Rattle.std.proofs.Common.{◌≡◌, ℕ, zero, suc, ◌+◌, ◌^◌, ◌<◌, ◌≤◌, ◌⊎◌, inl, inr, refl, subst, arith, Bool, true, false, Some, None}
use Rattle.std.specs.Prelude.{if◌then◌else◌, nat_le}
use Rattle.std.proofs.lemmas.Bool.{cases_eq}
use Rattle.std.proofs.lemmas.Bool.Decides.{leb_tells}
use Rattle.monitor_model.specs.Ends.{codes_from}

-- equal needs have the same first variable whose codes do not suffice
pub same_codes_from : (bits : ℕ) (f g : ℕ → ℕ) (x n : ℕ) →
    ((y : ℕ) → y < x + n → f y ≡ g y) → codes_from bits f x n ≡ codes_from bits g x n
same_codes_from bits f g x zero h = refl
same_codes_from bits f g x (suc n) h =
    let here : f x ≡ g x = h x (omega arith) in
    let rest = same_codes_from bits f g (x + 1) n (λ y p. h y (omega arith)) in
    cc (here, rest)

-- where there is none, the codes of each variable suffice
pub codes_suffice : (bits : ℕ) (f : ℕ → ℕ) (x n : ℕ) → codes_from bits f x n ≡ None →
    (y : ℕ) → x ≤ y → y < x + n → f y < 2 ^ bits
codes_suffice bits f x zero e y p q = absurd (omega arith)
codes_suffice bits f x (suc n) e y p q =
    by_test (nat_le (2 ^ bits) (f x)) (leb_tells (2 ^ bits) (f x)) e
    (λ h. codes_suffice bits f (x + 1) n h y)
  where
    by_test : (b : Bool) → ((b ≡ true) × (2 ^ bits ≤ f x)) ⊎ ((b ≡ false) × (f x < 2 ^ bits)) →
        (if b then Some (x, f x) else codes_from bits f (x + 1) n) ≡ None →
        (codes_from bits f (x + 1) n ≡ None → x + 1 ≤ y → y < x + 1 + n → f y < 2 ^ bits) →
        f y < 2 ^ bits
    by_test true t none more = absurd (let no : ⊥ = cc in no)
    by_test false (inl t) none more = absurd (let no : false ≡ true = t.0 in cc)
    by_test false (inr t) none more = by_place (cases_eq x y)
      where
        by_place : (x ≡ y) ⊎ (x ≡ y → ⊥) → f y < 2 ^ bits
        by_place (inl same) = subst (λ (z : ℕ). f z < 2 ^ bits) same t.1
        by_place (inr other) = more none (lower other) (omega arith)
          where
            lower : (x ≡ y → ⊥) → x + 1 ≤ y
            lower d = omega arith
