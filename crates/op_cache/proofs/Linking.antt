-- Chains with one more entry, and chains of a round in which no head is set yet.
use Rattle.std.proofs.Common.{◌≡◌, ◌≢◌, ℕ, suc, ◌+◌, ◌<◌, ◌≤◌, ◌⊎◌, inl, inr, refl, sym, ap, ◌∙◌, subst, arith, Bool, true, false, cond, List, [], ◌∷◌, ◌++◌, length, get_or, set, Some, None, get_or-set_same, get_or-set_other, eq-eqb}
use Rattle.std.specs.Prelude.{nat_eq, if◌then◌else◌, slice_get}
use Rattle.std.specs.List.{All}
use Rattle.std.proofs.lemmas.Bool.{cases_lt, cases_eq, ne_eqb}
use Rattle.std.proofs.lemmas.List.{length_push, map_push, length-map, get_or_past}
use Rattle.std.proofs.lemmas.Option.{slice_get_within}
use Rattle.op_cache.specs.declared.key.Place.{Place}
use Rattle.op_cache.specs.declared.heads.Head.{Head}
use Rattle.op_cache.specs.declared.chains.Entry.{Entry}
use Rattle.op_cache.specs.Chains.{bucket_of, IsLastIn, first_link, places, AreLinked}
use Rattle.op_cache.proofs.Lists.{pushed_was}

-- the first places are as before
last_pushed : (ps : List Place) (p : Place) (w b n l : ℕ) → n ≤ length ps → IsLastIn ps w b n l → IsLastIn (ps ++ p ∷ []) w b n l
last_pushed ps p w b n l few x = record {
  within = x.within;
  here = λ i q e f. by_here i q e (pushed_was ps p i q f);
  after = λ i q e f g. by_after i q e f (pushed_was ps p i q g);
}
  where
    by_here : (i : ℕ) (q : Place) → l ≡ suc i → (slice_get ps i ≡ Some q) ⊎ ((i ≡ length ps) × (p ≡ q)) → bucket_of w q ≡ b
    by_here i q e (inl f) = x.here i q e f
    by_here i q e (inr f) = let y = x.within in let z = f.0 in absurd (omega arith)

    by_after : (i : ℕ) (q : Place) → l ≤ i → i < n → (slice_get ps i ≡ Some q) ⊎ ((i ≡ length ps) × (p ≡ q)) → bucket_of w q ≢ b
    by_after i q e f (inl g) = x.after i q e f g
    by_after i q e f (inr g) = let z = g.0 in absurd (omega arith)

-- the new place stands in another bucket
last_other : (ps : List Place) (p : Place) (w b l : ℕ) → bucket_of w p ≢ b → IsLastIn ps w b (length ps) l → IsLastIn (ps ++ p ∷ []) w b (length ps + 1) l
last_other ps p w b l other x = record {
  within = let y = x.within in omega arith;
  here = (last_pushed ps p w b (length ps) l (omega arith) x).here;
  after = λ i q e f g. by_after i q e f (pushed_was ps p i q g);
}
  where
    by_after : (i : ℕ) (q : Place) → l ≤ i → i < length ps + 1 → (slice_get ps i ≡ Some q) ⊎ ((i ≡ length ps) × (p ≡ q)) → bucket_of w q ≢ b
    by_after i q e f (inl g) = x.after i q e (slice_get_within ps i q g) g
    by_after i q e f (inr g) = subst (λ r. bucket_of w r ≢ b) g.1 other

-- the new place is the last of its bucket
last_new : (ps : List Place) (p : Place) (w b l : ℕ) → bucket_of w p ≡ b → l ≡ length ps + 1 → IsLastIn (ps ++ p ∷ []) w b (length ps + 1) l
last_new ps p w b l same e = record {
  within = omega arith;
  here = λ i q f g. by_here i q f (pushed_was ps p i q g);
  after = λ i q f g h. absurd (omega arith);
}
  where
    by_here : (i : ℕ) (q : Place) → l ≡ suc i → (slice_get ps i ≡ Some q) ⊎ ((i ≡ length ps) × (p ≡ q)) → bucket_of w q ≡ b
    by_here i q f (inl g) = let y = slice_get_within ps i q g in absurd (omega arith)
    by_here i q f (inr g) = subst (λ r. bucket_of w r ≡ b) g.1 same

-- the link that a head shows in a round
abbrev shown : ℕ → Head → ℕ
shown r x = if nat_eq x.round r then x.link else 0

first_set_same : (heads : List Head) (b r l : ℕ) → b < length heads → first_link (set heads b (record { round = r; link = l })) r b ≡ l
first_set_same heads b r l h =
    let new : Head = record { round = r; link = l } in
    let old : Head = record { round = 0; link = 0 } in
    ap (shown r) (get_or-set_same heads b new old h) ∙ rw (eq-eqb r r refl) refl

first_set_other : (heads : List Head) (b c r : ℕ) (new : Head) → c ≢ b → first_link (set heads b new) r c ≡ first_link heads r c
first_set_other heads b c r new other =
    let old : Head = record { round = 0; link = 0 } in
    ap (shown r) (get_or-set_other heads b c new old other)

-- no head was set in a round that is later than all of theirs
first_unset : (heads : List Head) (r b : ℕ) → All (λ h. h.round < r) heads → first_link heads r b ≡ 0
first_unset heads r b early = by_place (cases_lt b (length heads))
  where
    by_round : (x : Head) → x.round ≢ r → shown r x ≡ 0
    by_round x other = rw (ne_eqb x.round r other) refl

    by_test : (t : Bool) → cond {A = ℕ} t 0 0 ≡ 0
    by_test true = refl
    by_test false = refl

    by_place : (b < length heads) ⊎ (length heads ≤ b) → first_link heads r b ≡ 0
    by_place (inl f) =
        by_round (get_or heads b (record { round = 0; link = 0 }))
        (let y : (get_or heads b (record { round = 0; link = 0 })).round < r = early b (record { round = 0; link = 0 }) f in λ e. omega arith)
    by_place (inr f) = ap (shown r) (get_or_past heads b (record { round = 0; link = 0 }) f) ∙ by_test (nat_eq 0 r)

last_none : (w b : ℕ) → IsLastIn [] w b 0 0
last_none w b = record {
  within = omega arith;
  here = λ i p e f. absurd (let g : None ≡ Some p = f in cc);
  after = λ i p e f g. absurd (let h : None ≡ Some p = g in cc);
}

module _ {H : Type 0} where
  -- no entries are linked in a new round
  pub linked_none : (heads : List Head) (w r : ℕ) → All (λ h. h.round < r) heads → AreLinked {H = H} [] heads w r
  linked_none heads w r early = record {
    heads_lead = λ b. subst (λ (l : ℕ). IsLastIn [] w b 0 l) (sym (first_unset heads r b early)) (last_none w b);
    links_lead = λ i e f. absurd (let g : None ≡ Some e = f in cc);
  }

  module _ (es : List (Entry H)) (heads : List Head) (w r : ℕ) (linked : AreLinked es heads w r) (e : Entry H) (n b : ℕ)
      (many : n ≡ length es) (in_b : bucket_of w e.place ≡ b) (inside : b < length heads) (lead : e.link ≡ first_link heads r b) where
    same_count : length (places es) ≡ length es
    same_count = length-map es (λ (x : Entry H). x.place)

    pushed_places : places es ++ e.place ∷ [] ≡ places (es ++ e ∷ [])
    pushed_places = sym (map_push (λ (x : Entry H). x.place) es e)

    -- of all entries, by the places before and the new one
    of_all : (c l : ℕ) → IsLastIn (places es ++ e.place ∷ []) w c (length (places es) + 1) l → IsLastIn (places (es ++ e ∷ [])) w c (length (es ++ e ∷ [])) l
    of_all c l x =
        subst (λ ps. IsLastIn ps w c (length (es ++ e ∷ [])) l) pushed_places
        (subst (λ (m : ℕ). IsLastIn (places es ++ e.place ∷ []) w c m l) (let p = length_push es e in let q = same_count in omega arith) x)

    head_leads : (c : ℕ) → (c ≡ b) ⊎ (c ≡ b → ⊥) → IsLastIn (places (es ++ e ∷ [])) w c (length (es ++ e ∷ [])) (first_link (set heads b (record { round = r; link = n + 1 })) r c)
    head_leads c (inl same) =
        of_all c _
        (last_new (places es) e.place w c _ (in_b ∙ sym same)
        (ap (first_link (set heads b (record { round = r; link = n + 1 })) r) same ∙ (first_set_same heads b r (n + 1) inside ∙ (let q = same_count in omega arith))))
    head_leads c (inr other) =
        of_all c _
        (subst (λ (l : ℕ). IsLastIn (places es ++ e.place ∷ []) w c (length (places es) + 1) l) (sym (first_set_other heads b c r (record { round = r; link = n + 1 }) other))
        (last_other (places es) e.place w c (first_link heads r c) (λ x. other (sym x ∙ in_b))
        (subst (λ (m : ℕ). IsLastIn (places es) w c m (first_link heads r c)) (sym same_count) (linked.heads_lead c))))

    of_some : (c m l : ℕ) → m ≤ length es → IsLastIn (places es) w c m l → IsLastIn (places (es ++ e ∷ [])) w c m l
    of_some c m l few x =
        subst (λ ps. IsLastIn ps w c m l) pushed_places (last_pushed (places es) e.place w c m l (let q = same_count in omega arith) x)

    link_leads : (i : ℕ) (f : Entry H) → (slice_get es i ≡ Some f) ⊎ ((i ≡ length es) × (e ≡ f)) → IsLastIn (places (es ++ e ∷ [])) w (bucket_of w f.place) i f.link
    link_leads i f (inl g) = of_some _ i f.link (let k = slice_get_within es i f g in omega arith) (linked.links_lead i f g)
    link_leads i f (inr g) =
        let x = of_some b (length es) (first_link heads r b) (omega arith) (linked.heads_lead b) in
        let y : IsLastIn (places (es ++ e ∷ [])) w b (length es) e.link = subst (λ (l : ℕ). IsLastIn (places (es ++ e ∷ [])) w b (length es) l) (sym lead) x in
        let z : IsLastIn (places (es ++ e ∷ [])) w (bucket_of w e.place) (length es) e.link = subst (λ (c : ℕ). IsLastIn (places (es ++ e ∷ [])) w c (length es) e.link) (sym in_b) y in
        let v : IsLastIn (places (es ++ e ∷ [])) w (bucket_of w e.place) i e.link = subst (λ (m : ℕ). IsLastIn (places (es ++ e ∷ [])) w (bucket_of w e.place) m e.link) (sym g.0) z in
        subst (λ (x : Entry H). IsLastIn (places (es ++ e ∷ [])) w (bucket_of w x.place) i x.link) g.1 v

    -- an entry was put at the head of its bucket's chain
    pub linked_pushed : AreLinked (es ++ e ∷ []) (set heads b (record { round = r; link = n + 1 })) w r
    linked_pushed = record { heads_lead = λ c. head_leads c (cases_eq c b); links_lead = λ i f g. link_leads i f (pushed_was es e i f g) }
