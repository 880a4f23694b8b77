-- Truth and memory at a position rest on the events up to it.
use Rattle.std.proofs.Common.{◌≡◌, ℕ, zero, suc, ◌+◌, ◌-◌, ◌<◌, ◌≤◌, ◌↔◌, refl, ap, subst, List, [], ◌∷◌, ◌++◌, take, min, arith}
use Rattle.std.specs.Prelude.{slice_get}
use Rattle.std.specs.List.{flat_map}
use Rattle.qtl_syntax.specs.declared.formula.Bound.{Bound}
use Rattle.qtl_syntax.specs.declared.formula.Bound.TheVariants.{AtMost, MoreThan}
use Rattle.qtl_truth.specs.declared.event.Event.{Event}
use Rattle.qtl_truth.specs.Laws.{SameTo}
use Rattle.qtl_truth.specs.Truth.{Claim, time_at, time_of, IsWithin}
use Rattle.wellformed.specs.CoreTree.{CoreFormula, True, False, Atom, Not, And, Or, Implies, Iff, Prev, Since, TimedSince, Once, TimedOnce, Always, TimedAlways, Interval, Exists, Forall}
use Rattle.subformulas.specs.Assigned.{Texts, put, Truth}
use Rattle.subformulas.specs.Facts.{args_of}
use Rattle.subformulas.specs.Memory.{age, Supports, IsAge, Memo}
use Rattle.subformulas.specs.Pinned.{constants, fresh}
use Rattle.subformulas.specs.Texts.{longer}
use Rattle.subformulas.specs.declared.table.Sub.{Sub}
use Rattle.subformulas.proofs.Agree.{Agree, same, both, either, neither, implied, tied, some_time, each_time, after, since, interval}
use Rattle.subformulas.proofs.Fresh.{Temporal}
use Rattle.subformulas.proofs.Ages.{supports_same}

module _ (log log' : List Event) (n : ℕ) (s : SameTo n log log') where
  time_same : (i : ℕ) → 1 ≤ i → i ≤ n → time_at log i ≡ time_at log' i
  time_same i p q = ap time_of (s.events i p q)

  age_past : (i j : ℕ) → 1 ≤ j → j ≤ i → i ≤ n → age log i j ≡ age log' i j
  age_past i j p q r = rw (time_same i (omega arith) r, time_same j p (omega arith)) refl

  within_past : (b : Bound) (i j : ℕ) → 1 ≤ j → j ≤ i → i ≤ n → IsWithin b log i j ↔ IsWithin b log' i j
  within_past (AtMost m) i j p q r = rw (time_same i (omega arith) r, time_same j p (omega arith)) same
  within_past (MoreThan m) i j p q r = rw (time_same i (omega arith) r, time_same j p (omega arith)) same

  pub truth_past : (f : CoreFormula) (nu : Texts) (i : ℕ) → 1 ≤ i → i ≤ n → Truth log f nu i ↔ Truth log' f nu i
  unfolding Agree
  truth_past True nu i p q = same
  truth_past False nu i p q = same
  truth_past (Atom a) nu i p q = rw (s.events i p q) same
  truth_past (Not f) nu i p q = neither (truth_past f nu i p q)
  truth_past (And f g) nu i p q = both (truth_past f nu i p q) (truth_past g nu i p q)
  truth_past (Or f g) nu i p q = either (truth_past f nu i p q) (truth_past g nu i p q)
  truth_past (Implies f g) nu i p q = implied (truth_past f nu i p q) (truth_past g nu i p q)
  truth_past (Iff f g) nu i p q = tied (truth_past f nu i p q) (truth_past g nu i p q)
  truth_past (Exists x f) nu i p q =
      (λ (t, k, h). (t, k, (truth_past f (put x t nu) i p q).0 h), λ (t, k, h). (t, k, (truth_past f (put x t nu) i p q).1 h))
  truth_past (Forall x f) nu i p q =
      (λ h t k. (truth_past f (put x t nu) i p q).0 (h t k), λ h t k. (truth_past f (put x t nu) i p q).1 (h t k))
  truth_past (Prev f) nu i p q = (
    λ x. (x.0, (truth_past f nu (i - 1) (let one = x.0 in omega arith) (omega arith)).0 x.1),
    λ x. (x.0, (truth_past f nu (i - 1) (let one = x.0 in omega arith) (omega arith)).1 x.1),
  )
  truth_past (Since f g) nu i p q = since _ _ _ _ i (λ j x y. truth_past f nu j x (omega arith)) (λ j x y. truth_past g nu j x (omega arith))
  truth_past (TimedSince b f g) nu i p q =
      some_time _ _ i (λ j x y.
      let w = within_past b i j x y q in
      let h = truth_past g nu j x (omega arith) in
      let m = after _ _ i j (λ k z v. truth_past f nu k z (omega arith)) in
      (λ t. (w.0 t.0, h.0 t.1, m.0 t.2), λ t. (w.1 t.0, h.1 t.1, m.1 t.2)))
  truth_past (Once f) nu i p q = some_time _ _ i (λ j x y. truth_past f nu j x (omega arith))
  truth_past (TimedOnce b f) nu i p q = some_time _ _ i (λ j x y. both (within_past b i j x y q) (truth_past f nu j x (omega arith)))
  truth_past (Always f) nu i p q = each_time _ _ i (λ j x y. truth_past f nu j x (omega arith))
  truth_past (TimedAlways b f) nu i p q = each_time _ _ i (λ j x y. implied (within_past b i j x y q) (truth_past f nu j x (omega arith)))
  truth_past (Interval f g) nu i p q = interval _ _ _ _ i (λ j x y. truth_past f nu j x (omega arith)) (λ j x y. truth_past g nu j x (omega arith))

  -- what is remembered under a bound
  remembered_past : (b : Bound) (f f' g g' : Claim) (i a : ℕ) → i ≤ n → Agree f f' i → Agree g g' i → IsAge b log f g i a ↔ IsAge b log' f' g' i a
  unfolding Agree
  remembered_past (AtMost m) f f' g g' i a r p q =
      let some = some_time (λ j. Supports f g i j × (age log i j ≡ a)) (λ j. Supports f' g' i j × (age log' i j ≡ a)) i
      (λ j x y. both (supports_same f f' g g' i j x y p q) (rw (age_past i j x y r) same)) in
      let each = each_time (λ j. Supports f g i j → a ≤ age log i j) (λ j. Supports f' g' i j → a ≤ age log' i j) i
      (λ j x y. implied (supports_same f f' g g' i j x y p q) (rw (age_past i j x y r) same)) in
      (λ t. (t.0, some.0 t.1, each.0 t.2), λ t. (t.0, some.1 t.1, each.1 t.2))
  remembered_past (MoreThan m) f f' g g' i a r p q =
      let some = some_time (λ j. Supports f g i j × (min (age log i j) (m + 1) ≡ a)) (λ j. Supports f' g' i j × (min (age log' i j) (m + 1) ≡ a)) i
      (λ j x y. both (supports_same f f' g g' i j x y p q) (rw (age_past i j x y r) same)) in
      let each = each_time (λ j. Supports f g i j → min (age log i j) (m + 1) ≤ a) (λ j. Supports f' g' i j → min (age log' i j) (m + 1) ≤ a) i
      (λ j x y. implied (supports_same f f' g g' i j x y p q) (rw (age_past i j x y r) same)) in
      both some each

  pub memo_past : (f : CoreFormula) (nu : Texts) (i a : ℕ) → Temporal f → i ≤ n → Memo log f nu i a ↔ Memo log' f nu i a
  unfolding Agree
  memo_past (Prev f) nu i a h r = (λ v. (v.0, (truth_past f nu i v.0 r).0 v.1), λ v. (v.0, (truth_past f nu i v.0 r).1 v.1))
  memo_past (Since f g) nu i a h r = since _ _ _ _ i (λ j x y. truth_past f nu j x (omega arith)) (λ j x y. truth_past g nu j x (omega arith))
  memo_past (TimedSince b f g) nu i a h r =
      remembered_past b _ _ _ _ i a r (λ j x y. truth_past f nu j x (omega arith)) (λ j x y. truth_past g nu j x (omega arith))
  memo_past (Once f) nu i a h r = some_time _ _ i (λ j x y. truth_past f nu j x (omega arith))
  memo_past (TimedOnce b f) nu i a h r = remembered_past b _ _ _ _ i a r (λ j x y. same) (λ j x y. truth_past f nu j x (omega arith))
  memo_past (Always f) nu i a h r = each_time _ _ i (λ j x y. truth_past f nu j x (omega arith))
  memo_past (TimedAlways b f) nu i a h r = remembered_past b _ _ _ _ i a r (λ j x y. same) (λ j x y. neither (truth_past f nu j x (omega arith)))
  memo_past (Interval f g) nu i a h r = interval _ _ _ _ i (λ j x y. truth_past f nu j x (omega arith)) (λ j x y. truth_past g nu j x (omega arith))
  memo_past _ nu i a h r = absurd h

-- logs that agree up to i begin with the same i events
take_same : (i : ℕ) (log log' : List Event) → ((j : ℕ) → j < i → slice_get log j ≡ slice_get log' j) → take i log ≡ take i log'
take_same i [] [] h = refl
take_same zero [] (e ∷ more) h = refl
take_same zero (d ∷ log) [] h = refl
take_same zero (d ∷ log) (e ∷ more) h = refl
take_same (suc i) [] (e ∷ more) h = let q = h 0 (omega arith) in absurd (let never : ⊥ = cc in never)
take_same (suc i) (d ∷ log) [] h = let q = h 0 (omega arith) in absurd (let never : ⊥ = cc in never)
take_same (suc i) (d ∷ log) (e ∷ more) h =
    let q = h 0 (omega arith) in
    let f : d ≡ e = cc in
    let g = take_same i log more (λ j p. h (suc j) (omega arith)) in
    cc

pub prefix_same : (i : ℕ) (log log' : List Event) → SameTo i log log' → take i log ≡ take i log'
prefix_same i log log' s =
    take_same i log log' (λ j p. let e : j + 1 - 1 ≡ j = omega arith in subst (λ (k : ℕ). slice_get log k ≡ slice_get log' k) e (s.events (j + 1) (omega arith) (omega arith)))

pub fresh_past : (subs : List Sub) (i : ℕ) (log log' : List Event) → SameTo i log log' → fresh subs log i ≡ fresh subs log' i
fresh_past subs i log log' s = ap (λ (es : List Event). longer (constants subs ++ flat_map args_of es)) (prefix_same i log log' s)
