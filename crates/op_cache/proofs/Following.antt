-- Following a chain: at its head, one entry on, where the place is found, and at the end.
use Rattle.std.proofs.Common.{◌≡◌, ◌≢◌, ℕ, suc, ◌<◌, ◌≤◌, ◌⊎◌, inl, inr, refl, sym, ap, ◌∙◌, subst, arith, true, false, List, [], ◌∷◌, length, Some, None}
use Rattle.std.specs.Prelude.{slice_get, option_map}
use Rattle.std.specs.List.{IsDistinct}
use Rattle.std.specs.Map.{keys_of}
use Rattle.std.proofs.lemmas.Bool.{cases_order}
use Rattle.std.proofs.lemmas.Map.Entries.{lookup_from_place}
use Rattle.std.proofs.lemmas.Option.{slice_get_within, slice_get-map}
use Rattle.op_cache.specs.declared.key.Place.{Place}
use Rattle.op_cache.specs.declared.heads.Head.{Head}
use Rattle.op_cache.specs.declared.chains.Entry.{Entry}
use Rattle.op_cache.specs.Keys.{same_place}
use Rattle.op_cache.specs.Memo.{result_at}
use Rattle.op_cache.specs.Chains.{bucket_of, IsLastIn, first_link, places, pairs_of, AreLinked, ArePassed}
use Rattle.op_cache.proofs.Places.{Decides-place, places_laws, differ}

other_bucket : (w : ℕ) (p q : Place) → bucket_of w q ≢ bucket_of w p → same_place p q ≡ false
other_bucket w p q never = differ p q (λ e. never (ap (bucket_of w) (sym e)))

module _ {H : Type 0} where
  place_there : (es : List (Entry H)) (i : ℕ) (e : Entry H) → slice_get es i ≡ Some e → slice_get (places es) i ≡ Some e.place
  place_there es i e f = slice_get-map (λ (x : Entry H). x.place) es i ∙ ap (option_map (λ (x : Entry H). x.place)) f

  pub passed_first : (es : List (Entry H)) (heads : List Head) (w r : ℕ) (p : Place) (b l : ℕ) → AreLinked es heads w r → b ≡ bucket_of w p → l ≡ first_link heads r b → ArePassed es w p l
  passed_first es heads w r p b l linked eb el =
      let last : IsLastIn (places es) w (bucket_of w p) (length es) l = subst (λ (x : ℕ). IsLastIn (places es) w (bucket_of w p) (length es) x) (sym el) (subst (λ (c : ℕ). IsLastIn (places es) w c (length es) (first_link heads r b)) eb (linked.heads_lead b)) in
      record {
        within = last.within;
        here = λ i e f g. last.here i e.place f (place_there es i e g);
        others = λ i e f g. other_bucket w p e.place (last.after i e.place f (slice_get_within es i e g) (place_there es i e g));
      }

  module _ (es : List (Entry H)) (heads : List Head) (w r : ℕ) (linked : AreLinked es heads w r) (p : Place) (l i : ℕ) (e : Entry H) (passed : ArePassed es w p l) (at : l ≡ suc i) (there : slice_get es i ≡ Some e) where
    last : IsLastIn (places es) w (bucket_of w e.place) i e.link
    last = linked.links_lead i e there

    pub next_smaller : e.link < l
    next_smaller = let x = last.within in omega arith

    pub passed_next : same_place p e.place ≡ false → ArePassed es w p e.link
    passed_next test = record {
      within = let x = last.within in let y = passed.within in omega arith;
      here = λ j f g h. last.here j f.place g (place_there es j f h) ∙ passed.here i e at there;
      others = λ j f g h. by_order j f g h (cases_order j i);
    }
      where
        by_order : (j : ℕ) (f : Entry H) → e.link ≤ j → slice_get es j ≡ Some f → (j ≡ i) ⊎ ((j < i) ⊎ (i < j)) → same_place p f.place ≡ false
        by_order j f g h (inl same) =
            let x : Some f ≡ Some e = sym h ∙ (ap (slice_get es) same ∙ there) in
            let y : f ≡ e = cc in
            ap (λ (z : Entry H). same_place p z.place) y ∙ test
        by_order j f g h (inr (inl below)) =
            other_bucket w p f.place (λ x. last.after j f.place g below (place_there es j f h) (x ∙ sym (passed.here i e at there)))
        by_order j f g h (inr (inr above)) = passed.others j f (omega arith) h

    pub passed_found : IsDistinct same_place (keys_of (pairs_of es)) → same_place p e.place ≡ true → Some e.result ≡ result_at (pairs_of es) p
    passed_found distinct test =
        let same : p ≡ e.place = (Decides-place p e.place).0 test in
        let pair : slice_get (pairs_of es) i ≡ Some (e.place, e.result) = slice_get-map (λ (x : Entry H). (x.place, x.result)) es i ∙ ap (option_map (λ (x : Entry H). (x.place, x.result))) there in
        sym (lookup_from_place places_laws (pairs_of es) i e.place e.result distinct pair) ∙ ap (result_at (pairs_of es)) (sym same)

  none_at : (es : List (Entry H)) (p : Place) → ((i : ℕ) (e : Entry H) → slice_get es i ≡ Some e → same_place p e.place ≡ false) → result_at (pairs_of es) p ≡ None
  none_at [] p never = refl
  none_at (e ∷ es) p never = rw (never 0 e refl) (none_at es p (λ i f g. never (suc i) f g))

  pub passed_all : (es : List (Entry H)) (w : ℕ) (p : Place) (l : ℕ) → l ≡ 0 → ArePassed es w p l → None ≡ result_at (pairs_of es) p
  passed_all es w p l e passed = sym (none_at es p (λ i f g. passed.others i f (omega arith) g))
