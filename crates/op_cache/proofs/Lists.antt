-- Elements of a list by their places, after a push.
use Rattle.std.proofs.Common.{◌≡◌, ℕ, zero, suc, ◌⊎◌, inl, inr, refl, ap, List, [], ◌∷◌, ◌++◌, length, Some, None}
use Rattle.std.specs.Prelude.{slice_get}

-- an element after a push was there before, or is the new one
pub pushed_was : {X : Type 0} (xs : List X) (y : X) (i : ℕ) (z : X) → slice_get (xs ++ y ∷ []) i ≡ Some z → (slice_get xs i ≡ Some z) ⊎ ((i ≡ length xs) × (y ≡ z))
pushed_was [] y zero z e = let f : Some y ≡ Some z = e in inr (refl, (cc))
pushed_was [] y (suc i) z e = absurd (let f : None ≡ Some z = e in cc)
pushed_was (x ∷ xs) y zero z e = inl e
pushed_was {X} (x ∷ xs) y (suc i) z e = by_tail (pushed_was xs y i z e)
  where
    by_tail : (slice_get xs i ≡ Some z) ⊎ ((i ≡ length xs) × (y ≡ z)) → (slice_get xs i ≡ Some z) ⊎ ((suc i ≡ suc (length xs)) × (y ≡ z))
    by_tail (inl f) = inl f
    by_tail (inr f) = inr (ap suc f.0, f.1)
