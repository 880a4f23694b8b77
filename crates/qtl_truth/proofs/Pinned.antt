-- The operators in terms of one another, as claims.
use Rattle.std.proofs.Common.{◌≡◌, ℕ, ◌+◌, ◌-◌, ◌<◌, ◌≤◌, ◌⊎◌, ◌↔◌, inl, inr, ⊎_elim, subst, arith}
use Rattle.std.proofs.lemmas.Bool.{cases_lt}
use Rattle.qtl_truth.specs.Truth.{Claim, SomeTime, After, NeverFrom, SinceThen}
use Rattle.qtl_truth.proofs.Steps.{since_next, since_here, since_on}

since_at : (f g : Claim) (i : ℕ) → SinceThen f g i → 1 ≤ i
since_at f g i (j, a, b, h) = omega arith

before_one : (f g : Claim) (i : ℕ) → 1 ≤ i → SinceThen f g (i - 1) → 1 < i
before_one f g i one h = let earlier : 1 ≤ i - 1 = since_at f g (i - 1) h in omega arith

-- since at i, by what holds at i and before
pub unfold_since : (f g : Claim) (i : ℕ) → 1 ≤ i → SinceThen f g i ↔ (g i ⊎ (f i × ((1 < i) × SinceThen f g (i - 1))))
unfold_since f g i one =
    let same : i - 1 + 1 ≡ i = omega arith in
    let back : i ≡ i - 1 + 1 = omega arith in (
      λ h. ⊎_elim
          (λ x. inl (subst g same x))
          (λ x. inr (subst f same x.0, (before_one f g i one x.1, x.1)))
          (since_next f g (i - 1) (subst (λ n. SinceThen f g n) back h)),
      λ h. subst (λ n. SinceThen f g n) same (⊎_elim
          (λ x. since_here f g (i - 1) (subst g back x))
          (λ x. since_on f g (i - 1) (subst f back x.0) x.1.1)
          h),
    )

never_or : (g : Claim) (i j k : ℕ) → ¬ g j → After j (λ n. ¬ g n) i → j ≤ k → k ≤ i → (j < k) ⊎ (k ≤ j) → ¬ g k
never_or g i j k here later p q (inl x) = later k x q
never_or g i j k here later p q (inr x) = let same : j ≡ k = omega arith in subst (λ n. ¬ g n) same here

-- an interval is a since
pub interval_since : (f g : Claim) (i : ℕ) →
    SomeTime (λ j. f j × NeverFrom j g i) i ↔ SinceThen (λ j. ¬ g j) (λ j. f j × (¬ g j)) i
interval_since f g i = (
  λ (j, p, q, (h, never)). (j, p, q, ((h, never j (omega arith) q), λ k x y. never k (omega arith) y)),
  λ (j, p, q, (h, later)). (j, p, q, (h.0, λ k x y. never_or g i j k h.1 later x y (cases_lt j k))),
)
