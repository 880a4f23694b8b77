-- Look-ups in pairs after one more was stored.
use Rattle.std.proofs.Common.{◌≡◌, Bool, true, false, cond, refl, sym, ap, ◌∙◌, List, [], ◌∷◌, ◌++◌, Some, None}
use Rattle.std.specs.Prelude.{if◌then◌else◌}
use Rattle.std.specs.List.{IsDistinct, list_any}
use Rattle.std.specs.Map.{lookup, keys_of}
use Rattle.std.proofs.lemmas.List.{length_push, map_push}
use Rattle.std.proofs.lemmas.Map.Keys.{IsDistinct-push}
use Rattle.op_cache.specs.declared.key.Place.{Place}
use Rattle.op_cache.specs.Keys.{same_place}
use Rattle.op_cache.specs.Memo.{result_at, Adds}
use Rattle.op_cache.proofs.Places.{Decides-place, places_laws}

module _ {H : Type 0} where
  -- what wasn't found is found in the new pair, or not at all
  lookup-push_none : (test : Place → Bool) (pairs : List (Place × H)) (p : Place) (h : H) → lookup test pairs ≡ None → lookup test (pairs ++ (p, h) ∷ []) ≡ cond (test p) (Some h) None
  lookup-push_none test [] p h e = refl
  lookup-push_none test (x ∷ pairs) p h e = by_head (test x.0) e (lookup-push_none test pairs p h)
    where
      by_head : (b : Bool) → cond b (Some x.1) (lookup test pairs) ≡ None → (lookup test pairs ≡ None → lookup test (pairs ++ (p, h) ∷ []) ≡ cond (test p) (Some h) None) →
          cond b (Some x.1) (lookup test (pairs ++ (p, h) ∷ [])) ≡ cond (test p) (Some h) None
      by_head true f k = absurd (let g : Some x.1 ≡ None = f in cc)
      by_head false f k = k f

  -- a pair that doesn't pass changes nothing
  lookup-push_other : (test : Place → Bool) (pairs : List (Place × H)) (p : Place) (h : H) → test p ≡ false → lookup test (pairs ++ (p, h) ∷ []) ≡ lookup test pairs
  lookup-push_other test [] p h e = rw e refl
  lookup-push_other test (x ∷ pairs) p h e = ap (λ o. cond (test x.0) (Some x.1) o) (lookup-push_other test pairs p h e)

  none_passes : (test : Place → Bool) (pairs : List (Place × H)) → lookup test pairs ≡ None → list_any test (keys_of pairs) ≡ false
  none_passes test [] e = refl
  none_passes test (x ∷ pairs) e = by_head (test x.0) refl e (none_passes test pairs)
    where
      by_head : (b : Bool) → test x.0 ≡ b → cond b (Some x.1) (lookup test pairs) ≡ None → (lookup test pairs ≡ None → list_any test (keys_of pairs) ≡ false) → list_any test (keys_of (x ∷ pairs)) ≡ false
      by_head true e f k = absurd (let g : Some x.1 ≡ None = f in cc)
      by_head false e f k = rw e (k f)

  pub adds : (pairs : List (Place × H)) (p : Place) (h : H) → result_at pairs p ≡ None → Adds pairs p h (pairs ++ (p, h) ∷ [])
  adds pairs p h none = record { results = λ q. by_test q (same_place p q) refl; count = length_push pairs (p, h) }
    where
      by_test : (q : Place) (b : Bool) → same_place p q ≡ b → result_at (pairs ++ (p, h) ∷ []) q ≡ (if same_place p q then Some h else result_at pairs q)
      by_test q true e =
          let same = (Decides-place p q).0 e in
          let absent : result_at pairs q ≡ None = ap (result_at pairs) (sym same) ∙ none in
          let turned : same_place q p ≡ true = places_laws.symm q p ∙ e in
          lookup-push_none (same_place q) pairs p h absent ∙ rw (turned, e) refl
      by_test q false e =
          let turned : same_place q p ≡ false = places_laws.symm q p ∙ e in
          lookup-push_other (same_place q) pairs p h turned ∙ rw e refl

  pub distinct_pushed : (pairs : List (Place × H)) (p : Place) (h : H) → result_at pairs p ≡ None → IsDistinct same_place (keys_of pairs) → IsDistinct same_place (keys_of (pairs ++ (p, h) ∷ []))
  distinct_pushed pairs p h none d =
      rw (map_push (λ (e : Place × H). e.0) pairs (p, h)) (IsDistinct-push places_laws (keys_of pairs) p d (none_passes (same_place p) pairs none))
