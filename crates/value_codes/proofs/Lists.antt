-- Elements of a list by their places, after a push and after a `swap_remove`; places of codes, and how many there are.
use Rattle.std.proofs.Common.{◌≡◌, ◌≢◌, ℕ, zero, suc, ◌+◌, ◌-◌, ◌<◌, ◌≤◌, ◌⊎◌, inl, inr, ⊎_elim, refl, sym, ap, ◌∙◌, arith, List, [], ◌∷◌, ◌++◌, length, get_or, set, take, Bool, true, false, cond, Option, Some, None, length-append, length-set, length-take, get_or-set_same, get_or-set_other}
use Rattle.std.specs.Prelude.{IsSome, is_some, nat_lt, if◌then◌else◌, slice_get}
use Rattle.std.specs.List.{count_by, swap_remove}
use Rattle.std.proofs.lemmas.List.{get_or_past}
use Rattle.std.proofs.lemmas.List.Sums.{sum_by-append, sum_by-set}
use Rattle.std.proofs.lemmas.Option.{slice_get_within, slice_get-get_or}
use Rattle.std.proofs.lemmas.Bool.{cases_Bool}
use Rattle.std.proofs.lemmas.Bool.Decides.{Decides-ltb, not_from_Decides}
use Rattle.value_codes.specs.Places.{place_of, with_place}

module _ {X : Type 0} where
  get_take : (n : ℕ) (xs : List X) (j : ℕ) → j < n → slice_get (take n xs) j ≡ slice_get xs j
  get_take zero xs j h = absurd (omega arith)
  get_take (suc n) [] j h = refl
  get_take (suc n) (x ∷ xs) zero h = refl
  get_take (suc n) (x ∷ xs) (suc j) h = get_take n xs j (omega arith)

  get_set_same : (xs : List X) (i : ℕ) (y : X) → i < length xs → slice_get (set xs i y) i ≡ Some y
  get_set_same [] i y h = absurd (omega arith)
  get_set_same (x ∷ xs) zero y h = refl
  get_set_same (x ∷ xs) (suc i) y h = get_set_same xs i y (omega arith)

  get_set_other : (xs : List X) (i : ℕ) (y : X) (j : ℕ) → j ≢ i → slice_get (set xs i y) j ≡ slice_get xs j
  get_set_other [] i y j h = refl
  get_set_other (x ∷ xs) zero y zero h = absurd (h refl)
  get_set_other (x ∷ xs) zero y (suc j) h = refl
  get_set_other (x ∷ xs) (suc i) y zero h = refl
  get_set_other (x ∷ xs) (suc i) y (suc j) h = get_set_other xs i y j (λ e. h (ap suc e))

  get_left : (xs ys : List X) (i : ℕ) → i < length xs → slice_get (xs ++ ys) i ≡ slice_get xs i
  get_left [] ys i h = absurd (omega arith)
  get_left (x ∷ xs) ys zero h = refl
  get_left (x ∷ xs) ys (suc i) h = get_left xs ys i (omega arith)

  get_pushed : (xs : List X) (y : X) → slice_get (xs ++ y ∷ []) (length xs) ≡ Some y
  get_pushed [] y = refl
  get_pushed (x ∷ xs) y = get_pushed xs y

  -- an element after a push was there before, or is the new one
  pub pushed_was : (xs : List X) (y : X) (i : ℕ) (z : X) → slice_get (xs ++ y ∷ []) i ≡ Some z → (slice_get xs i ≡ Some z) ⊎ ((i ≡ length xs) × (y ≡ z))
  pushed_was [] y zero z e = let f : Some y ≡ Some z = e in inr (refl, (cc))
  pushed_was [] y (suc i) z e = absurd (let f : None ≡ Some z = e in cc)
  pushed_was (x ∷ xs) y zero z e = inl e
  pushed_was (x ∷ xs) y (suc i) z e = by_tail (pushed_was xs y i z e)
    where
      by_tail : (slice_get xs i ≡ Some z) ⊎ ((i ≡ length xs) × (y ≡ z)) → (slice_get xs i ≡ Some z) ⊎ ((suc i ≡ suc (length xs)) × (y ≡ z))
      by_tail (inl f) = inl f
      by_tail (inr f) = inr (ap suc f.0, f.1)

  pub pushed_stays : (xs : List X) (y : X) (i : ℕ) (z : X) → slice_get xs i ≡ Some z → slice_get (xs ++ y ∷ []) i ≡ Some z
  pushed_stays xs y i z e = get_left xs (y ∷ []) i (slice_get_within xs i z e) ∙ e

  pub pushed_last : (xs : List X) (y : X) → slice_get (xs ++ y ∷ []) (length xs) ≡ Some y
  pushed_last = get_pushed

  module _ (xs : List X) (i : ℕ) (x : X) (within : i < length xs) where
    pub swapped_length : length (swap_remove xs i x) + 1 ≡ length xs
    swapped_length = simp (length-take, length-set) (omega arith)

    pub swapped_other : (j : ℕ) → j + 1 < length xs → j ≢ i → slice_get (swap_remove xs i x) j ≡ slice_get xs j
    swapped_other j h never = get_take (length xs - 1) (set xs i (get_or xs (length xs - 1) x)) j (omega arith) ∙ get_set_other xs i (get_or xs (length xs - 1) x) j never

    pub swapped_moved : i + 1 < length xs → slice_get (swap_remove xs i x) i ≡ slice_get xs (length xs - 1)
    swapped_moved h =
        get_take (length xs - 1) (set xs i (get_or xs (length xs - 1) x)) i (omega arith) ∙ (get_set_same xs i (get_or xs (length xs - 1) x) within
        ∙ sym (slice_get-get_or xs (length xs - 1) x (omega arith)))

    pub swapped_within : (j : ℕ) (z : X) → slice_get (swap_remove xs i x) j ≡ Some z → j + 1 < length xs
    swapped_within j z e = let h = slice_get_within (swap_remove xs i x) j z e in let k = swapped_length in omega arith

-- a code with a place is in the list
pub place_within : (places : List (Option ℕ)) (c i : ℕ) → place_of places c ≡ Some i → c < length places
place_within [] c i e = absurd (let f : None ≡ Some i = e in cc)
place_within (p ∷ places) zero i e = omega arith
place_within (p ∷ places) (suc c) i e = let h = place_within places c i e in omega arith

pub place_past : (places : List (Option ℕ)) (c : ℕ) → length places ≤ c → place_of places c ≡ None
place_past places c h = get_or_past places c None h

-- one more code without a place
pub place_pushed : (places : List (Option ℕ)) (c : ℕ) → place_of (places ++ None ∷ []) c ≡ place_of places c
place_pushed [] zero = refl
place_pushed [] (suc c) = refl
place_pushed (p ∷ places) zero = refl
place_pushed (p ∷ places) (suc c) = place_pushed places c

pub place_set_same : (places : List (Option ℕ)) (c : ℕ) (v : Option ℕ) → c < length places → place_of (set places c v) c ≡ v
place_set_same places c v h = get_or-set_same places c v None h

pub place_set_other : (places : List (Option ℕ)) (c : ℕ) (v : Option ℕ) (d : ℕ) → d ≢ c → place_of (set places c v) d ≡ place_of places d
place_set_other places c v d h = get_or-set_other places c d v None h

-- the number of codes with a place
pub count_pushed : (places : List (Option ℕ)) → count_by is_some (places ++ None ∷ []) ≡ count_by is_some places
count_pushed places = let e = sum_by-append (λ o. cond (is_some o) 1 0) places (None ∷ []) in omega arith

pub count_set : (places : List (Option ℕ)) (c : ℕ) (v : Option ℕ) → c < length places →
    count_by is_some (set places c v) + cond (is_some (place_of places c)) 1 0 ≡ count_by is_some places + cond (is_some v) 1 0
count_set places c v h = sum_by-set (λ o. cond (is_some o) 1 0) places c v None h

pub count_full : (places : List (Option ℕ)) → ((c : ℕ) → c < length places → IsSome (place_of places c)) → count_by is_some places ≡ length places
count_full [] all = refl
count_full (None ∷ places) all = absurd (let e : false ≡ true = all 0 (omega arith) in cc)
count_full (Some i ∷ places) all =
    let h = count_full places (λ c k. all (suc c) (omega arith)) in
    let e = sum_by-append (λ o. cond {A = ℕ} (is_some o) 1 0) (Some i ∷ []) places in
    omega arith

pub ltb_tells : (m n : ℕ) → ((nat_lt m n ≡ true) × (m < n)) ⊎ ((nat_lt m n ≡ false) × ¬ (m < n))
ltb_tells m n = ⊎_elim (λ e. inl (e, (Decides-ltb m n).0 e)) (λ e. inr (e, not_from_Decides _ (Decides-ltb m n) e)) (cases_Bool (nat_lt m n))

-- a list that is made to reach a code has the same places
pub with_same : (places : List (Option ℕ)) (c d : ℕ) → place_of (with_place places c) d ≡ place_of places d
with_same places c d = by_test (nat_lt c (length places))
  where
    by_test : (b : Bool) → place_of (if b then places else places ++ None ∷ []) d ≡ place_of places d
    by_test true = refl
    by_test false = place_pushed places d

pub with_within : (places : List (Option ℕ)) (c : ℕ) → c ≤ length places → c < length (with_place places c)
with_within places c h = by_test (ltb_tells c (length places))
  where
    by_test : ((nat_lt c (length places) ≡ true) × (c < length places)) ⊎ ((nat_lt c (length places) ≡ false) × ¬ (c < length places)) → c < length (with_place places c)
    by_test (inl q) = rw q.0 q.1
    by_test (inr q) = rw q.0 (let l = length-append places (None ∷ []) in omega arith)
