-- What follows from a book's places, and that they are kept.
use Rattle.std.proofs.Common.{◌≡◌, ◌≢◌, ℕ, ◌+◌, ◌-◌, ◌^◌, ◌<◌, ◌≤◌, ◌⊎◌, inl, inr, refl, sym, ap, ◌∙◌, subst, arith, List, [], ◌∷◌, ◌++◌, length, set, map, min, true, false, cond, Option, Some, None, length-append, length-set}
use Rattle.std.specs.Prelude.{nat_eq, nat_lt, if◌then◌else◌, IsSome, is_some, slice_get, bytes_eq, IfSome, IsSomeAnd}
use Rattle.std.specs.List.{count_by, IsDistinct, swap_remove}
use Rattle.std.specs.Cmp.Lexicographic.{pointwise}
use Rattle.std.specs.Map.{lookup}
use Rattle.std.proofs.lemmas.Bool.{cases_lt}
use Rattle.std.proofs.lemmas.Bool.Decides.{eqb_tells}
use Rattle.std.proofs.lemmas.List.Sums.{count_by-le-length}
use Rattle.std.proofs.lemmas.Option.{slice_get_within}
use Rattle.qtl_syntax.specs.Tree.{Text}
use Rattle.value_codes.specs.Pairs.{Pairs, code_of, value_of, IsLeastFree, IsPaired, IsBook, Adds, Removes}
use Rattle.value_codes.specs.Places.{place_of, with_place, IsFirstFree, IsKept}
use Rattle.value_codes.proofs.Lookups.{Tells, some_none, AreApart, value_there, value_nowhere, paired_pairs, code_lookup, values_added, values_removed}
use Rattle.value_codes.proofs.Lists.{pushed_was, pushed_stays, pushed_last, swapped_length, swapped_other, swapped_moved, swapped_within, place_within, place_pushed, place_set_same, place_set_other, count_pushed, count_set, count_full, ltb_tells, with_same, with_within}

-- the place where there is one
pub place_there : (places : List (Option ℕ)) (c : ℕ) → IsSome (place_of places c) → (i : ℕ) × (place_of places c ≡ Some i)
place_there places c h = by_place (place_of places c) h refl
  where
    by_place : (o : Option ℕ) → IsSome o → place_of places c ≡ o → (i : ℕ) × (place_of places c ≡ Some i)
    by_place None h e = absurd (let f : false ≡ true = h in cc)
    by_place (Some i) h e = (i, e)

module _ (bits : ℕ) (pairs : Pairs) (places : List (Option ℕ)) (hint : ℕ) (k : IsKept bits pairs places hint) where
  pub apart : AreApart pairs
  apart i j t u c e f = let z : Some i ≡ Some j = sym (k.placed i t c e) ∙ k.placed j u c f in cc

  pub value_free : (c : ℕ) → place_of places c ≡ None → value_of pairs c ≡ None
  value_free c e = value_nowhere pairs c (λ i t f. some_none (place_of places c) i (k.placed i t c f) e)

  pub value_given : (c i : ℕ) (t : Text) → slice_get pairs i ≡ Some (t, c) → value_of pairs c ≡ Some t
  value_given c i t e = value_there pairs i t c apart e

  -- what is read at a code's place is its text
  pub value_read : (c i : ℕ) (t : Text) (d : ℕ) → place_of places c ≡ Some i → slice_get pairs i ≡ Some (t, d) → value_of pairs c ≡ Some t
  value_read c i t d e f =
      let r = k.paired c i e in
      let z : Some (r.0, c) ≡ Some (t, d) = sym r.1 ∙ f in
      let y : r.0 ≡ t = same_text (r.0, c) (t, d) z in
      value_given c i r.0 r.1 ∙ ap (λ x. Some x) y
    where
      same_text : (p q : Text × ℕ) → Some p ≡ Some q → p.0 ≡ q.0
      same_text p q g = let x : p ≡ q = cc in ap (λ r. r.0) x

  pub is_given : (c : ℕ) → IsSome (place_of places c) → value_of pairs c ≢ None
  is_given c h n =
      let p = place_there places c h in
      let r = k.paired c p.0 p.1 in
      some_none (value_of pairs c) r.0 (value_given c p.0 r.0 r.1) n

  pub has_place : (c : ℕ) → value_of pairs c ≢ None → IsSome (place_of places c)
  has_place c h = by_place (place_of places c) refl
    where
      by_place : (o : Option ℕ) → place_of places c ≡ o → IsSome o
      by_place None e = absurd (h (value_free c e))
      by_place (Some i) e = refl

  pub is_book : IsBook (record { bits = bits; pairs = pairs })
  is_book = record {
    some_bits = k.some_bits;
    few_bits = k.few_bits;
    paired = paired_pairs pairs k.texts apart;
    below = λ c h. let p = place_there places c (has_place c h) in let w = place_within places c p.0 p.1 in let r = k.room in omega arith;
  }

  pub few : length pairs ≤ 2 ^ bits - 1
  few = let a = count_by-le-length is_some places in let b = k.count in let c = k.room in omega arith

  module _ (c : ℕ) (first : IsFirstFree places hint c) where
    pub all_given : (d : ℕ) → d < c → IsSome (place_of places d)
    all_given d h = by_cases (cases_lt d hint)
      where
        by_cases : (d < hint) ⊎ (hint ≤ d) → IsSome (place_of places d)
        by_cases (inl q) = k.given d q
        by_cases (inr q) = first.given d q h

    pub least : IsLeastFree pairs c
    least = (value_free c first.free, λ d h. is_given d (all_given d h))

    pub free_below : length pairs < 2 ^ bits - 1 → c < 2 ^ bits - 1
    free_below h = by_cases (cases_lt c (length places))
      where
        by_cases : (c < length places) ⊎ (length places ≤ c) → c < 2 ^ bits - 1
        by_cases (inl q) = let r = k.room in omega arith
        by_cases (inr q) = let w = first.within in let f = count_full places (λ d x. all_given d (omega arith)) in let e = k.count in omega arith

  -- the list of places may reach further
  pub reaches : (c : ℕ) → c ≤ length places → c < 2 ^ bits - 1 → IsKept bits pairs (with_place places c) hint
  reaches c w h = by_test (ltb_tells c (length places))
    where
      longer : c ≡ length places → IsKept bits pairs (places ++ None ∷ []) hint
      longer e = record {
        some_bits = k.some_bits;
        few_bits = k.few_bits;
        texts = k.texts;
        placed = λ i t d f. place_pushed places d ∙ k.placed i t d f;
        paired = λ d i f. k.paired d i (sym (place_pushed places d) ∙ f);
        count = count_pushed places ∙ k.count;
        room = let l = length-append places (None ∷ []) in omega arith;
        reach = let l = length-append places (None ∷ []) in let r = k.reach in omega arith;
        given = λ d q. subst IsSome (sym (place_pushed places d)) (k.given d q);
      }

      by_test : Tells (nat_lt c (length places)) (c < length places) → IsKept bits pairs (with_place places c) hint
      by_test (inl q) = rw q.0 k
      by_test (inr q) = rw q.0 (longer (let never = q.1 in omega arith))

  -- the least free code is given to a text
  pub added : (t : Text) (c : ℕ) → IsDistinct (pointwise nat_eq) (map (λ p. p.0) (pairs ++ (t, c) ∷ [])) → place_of places c ≡ None → c < length places → ((d : ℕ) → d < c → IsSome (place_of places d)) →
      IsKept bits (pairs ++ (t, c) ∷ []) (set places c (Some (length pairs))) (c + 1)
  added t c texts free w all = record {
    some_bits = k.some_bits;
    few_bits = k.few_bits;
    texts = texts;
    placed = λ i u d e. by_was i u d (pushed_was pairs (t, c) i (u, d) e);
    paired = λ d i e. by_code d i (eqb_tells d c) e;
    count =
        (let a = count_set places c (Some (length pairs)) w in
        let n : cond {A = ℕ} (is_some (place_of places c)) 1 0 ≡ 0 = rw free refl in
        let b = length-append pairs ((t, c) ∷ []) in
        let e = k.count in
        omega arith);
    room = let l = length-set places c (Some (length pairs)) in let r = k.room in omega arith;
    reach = let l = length-set places c (Some (length pairs)) in omega arith;
    given = λ d h. by_place d (eqb_tells d c) h;
  }
    where
      by_was : (i : ℕ) (u : Text) (d : ℕ) → (slice_get pairs i ≡ Some (u, d)) ⊎ ((i ≡ length pairs) × (◌≡◌ {A = Text × ℕ} (t, c) (u, d))) → place_of (set places c (Some (length pairs))) d ≡ Some i
      by_was i u d (inl f) =
          place_set_other places c (Some (length pairs)) d (λ e. some_none (place_of places d) i (k.placed i u d f) (subst (λ (j : ℕ). place_of places j ≡ None) (sym e) free)) ∙ k.placed i u d f
      by_was i u d (inr f) =
          let same : c ≡ d = ap (λ p. p.1) f.1 in
          subst (λ (j : ℕ). place_of (set places c (Some (length pairs))) j ≡ Some i) same (place_set_same places c (Some (length pairs)) w ∙ ap (λ (j : ℕ). Some j) (sym f.0))

      by_code : (d i : ℕ) → Tells (nat_eq d c) (d ≡ c) → place_of (set places c (Some (length pairs))) d ≡ Some i → (u : Text) × (slice_get (pairs ++ (t, c) ∷ []) i ≡ Some (u, d))
      by_code d i (inl q) e =
          let f : Some (length pairs) ≡ Some i = sym (place_set_same places c (Some (length pairs)) w) ∙ subst (λ (j : ℕ). place_of (set places c (Some (length pairs))) j ≡ Some i) q.1 e in
          let g : length pairs ≡ i = cc in
          (t, subst (λ (j : ℕ). slice_get (pairs ++ (t, c) ∷ []) j ≡ Some (t, d)) g (pushed_last pairs (t, c) ∙ ap (λ (y : ℕ). Some (t, y)) (sym q.1)))
      by_code d i (inr q) e =
          let r = k.paired d i (sym (place_set_other places c (Some (length pairs)) d q.1) ∙ e) in
          (r.0, pushed_stays pairs (t, c) i (r.0, d) r.1)

      by_place : (d : ℕ) → Tells (nat_eq d c) (d ≡ c) → d < c + 1 → IsSome (place_of (set places c (Some (length pairs))) d)
      by_place d (inl q) h = subst (λ (j : ℕ). IsSome (place_of (set places c (Some (length pairs))) j)) (sym q.1) (rw (place_set_same places c (Some (length pairs)) w) refl)
      by_place d (inr q) h = subst IsSome (sym (place_set_other places c (Some (length pairs)) d q.1)) (all d (let never = q.1 in omega arith))

  -- a code is taken back: the last pair moves into its pair's place
  module _ (c i : ℕ) (u : Text) (m : ℕ) (x : Text × ℕ) (there : place_of places c ≡ Some i) (last : slice_get pairs (length pairs - 1) ≡ Some (u, m)) where
    abbrev left : List (Option ℕ)
    left = set (set places m (Some i)) c None

    pub its_place : i < length pairs
    its_place = let r = k.paired c i there in slice_get_within pairs i (r.0, c) r.1

    c_within : c < length places
    c_within = place_within places c i there

    last_place : place_of places m ≡ Some (length pairs - 1)
    last_place = k.placed (length pairs - 1) u m last

    pub m_within : m < length places
    m_within = place_within places m (length pairs - 1) last_place

    same_code : (p q : Text × ℕ) → Some p ≡ Some q → p.1 ≡ q.1
    same_code p q e = let y : p ≡ q = cc in ap (λ r. r.1) y

    -- codes at one place are the same
    one_code : (j : ℕ) (v v' : Text) (d d' : ℕ) → slice_get pairs j ≡ Some (v, d) → slice_get pairs j ≡ Some (v', d') → d ≡ d'
    one_code j v v' d d' e f = let z : Some (v, d) ≡ Some (v', d') = sym e ∙ f in same_code (v, d) (v', d') z

    one_place : (d j j' : ℕ) → place_of places d ≡ Some j → place_of places d ≡ Some j' → j ≡ j'
    one_place d j j' e f = let z : Some j ≡ Some j' = sym e ∙ f in cc

    left_gone : place_of left c ≡ None
    left_gone = place_set_same (set places m (Some i)) c None (let l = length-set places m (Some i) in let w = c_within in omega arith)

    left_moved : m ≢ c → place_of left m ≡ Some i
    left_moved never = place_set_other (set places m (Some i)) c None m never ∙ place_set_same places m (Some i) m_within

    left_other : (d : ℕ) → d ≢ c → d ≢ m → place_of left d ≡ place_of places d
    left_other d a b = place_set_other (set places m (Some i)) c None d a ∙ place_set_other places m (Some i) d b

    kept_placed : (j : ℕ) (v : Text) (d : ℕ) → slice_get (swap_remove pairs i x) j ≡ Some (v, d) → place_of left d ≡ Some j
    kept_placed j v d e = by_place (eqb_tells j i)
      where
        before_last : j + 1 < length pairs
        before_last = swapped_within pairs i x its_place j (v, d) e

        by_place : Tells (nat_eq j i) (j ≡ i) → place_of left d ≡ Some j
        by_place (inl q) =
            let w = before_last in
            let n : i + 1 < length pairs = omega arith in
            let f : slice_get (swap_remove pairs i x) i ≡ Some (v, d) = subst (λ (y : ℕ). slice_get (swap_remove pairs i x) y ≡ Some (v, d)) q.1 e in
            let s : d ≡ m = one_code (length pairs - 1) v u d m (sym (swapped_moved pairs i x its_place n) ∙ f) last in
            let never : m ≢ c = (λ z. let y = one_place c (length pairs - 1) i (subst (λ (y : ℕ). place_of places y ≡ Some (length pairs - 1)) z last_place) there in omega arith) in
            subst (λ (y : ℕ). place_of left y ≡ Some j) (sym s) (left_moved never ∙ ap (λ (y : ℕ). Some y) (sym q.1))
        by_place (inr q) =
            let w = before_last in
            let f : slice_get pairs j ≡ Some (v, d) = sym (swapped_other pairs i x its_place j w q.1) ∙ e in
            let p = k.placed j v d f in
            left_other d
            (λ z. q.1 (one_place c j i (subst (λ (y : ℕ). place_of places y ≡ Some j) z p) there))
            (λ z. let y = one_place m j (length pairs - 1) (subst (λ (y : ℕ). place_of places y ≡ Some j) z p) last_place in omega arith)
            ∙ p

    kept_paired : (d j : ℕ) → place_of left d ≡ Some j → (v : Text) × (slice_get (swap_remove pairs i x) j ≡ Some (v, d))
    kept_paired d j e = by_code (eqb_tells d c) (eqb_tells d m)
      where
        at_c : (v : Text) × (slice_get pairs i ≡ Some (v, c))
        at_c = k.paired c i there

        by_code : Tells (nat_eq d c) (d ≡ c) → Tells (nat_eq d m) (d ≡ m) → (v : Text) × (slice_get (swap_remove pairs i x) j ≡ Some (v, d))
        by_code (inl a) b = some_none (place_of left c) j (subst (λ (y : ℕ). place_of left y ≡ Some j) a.1 e) left_gone
        by_code (inr a) (inl b) =
            let never : m ≢ c = (λ z. a.1 (b.1 ∙ z)) in
            let f : Some i ≡ Some j = sym (left_moved never) ∙ subst (λ (y : ℕ). place_of left y ≡ Some j) b.1 e in
            let g : i ≡ j = cc in
            let not_last : i ≢ length pairs - 1 = (λ z. never (one_code i u at_c.0 m c (subst (λ (y : ℕ). slice_get pairs y ≡ Some (u, m)) (sym z) last) at_c.1)) in
            let w = its_place in
            let n : i + 1 < length pairs = omega arith in
            (u, subst (λ (y : ℕ). slice_get (swap_remove pairs i x) y ≡ Some (u, d)) g (swapped_moved pairs i x its_place n ∙ (last ∙ ap (λ (y : ℕ). Some (u, y)) (sym b.1))))
        by_code (inr a) (inr b) =
            let r = k.paired d j (sym (left_other d a.1 b.1) ∙ e) in
            let w = slice_get_within pairs j (r.0, d) r.1 in
            let not_here : j ≢ i = (λ z. a.1 (one_code i r.0 at_c.0 d c (subst (λ (y : ℕ). slice_get pairs y ≡ Some (r.0, d)) z r.1) at_c.1)) in
            let not_last : j ≢ length pairs - 1 = (λ z. b.1 (one_code (length pairs - 1) r.0 u d m (subst (λ (y : ℕ). slice_get pairs y ≡ Some (r.0, d)) z r.1) last)) in
            let n : j + 1 < length pairs = omega arith in
            (r.0, swapped_other pairs i x its_place j n not_here ∙ r.1)

    kept_count : count_by is_some left ≡ length (swap_remove pairs i x)
    kept_count =
        let a = count_set places m (Some i) m_within in
        let l = length-set places m (Some i) in
        let w = c_within in
        let b = count_set (set places m (Some i)) c None (omega arith) in
        let n : cond {A = ℕ} (is_some (place_of places m)) 1 0 ≡ 1 = rw last_place refl in
        let s : cond {A = ℕ} (is_some (place_of (set places m (Some i)) c)) 1 0 ≡ 1 = rw (still (eqb_tells c m)) refl in
        let e = k.count in
        let f = swapped_length pairs i x its_place in
        omega arith
      where
        still : Tells (nat_eq c m) (c ≡ m) → place_of (set places m (Some i)) c ≡ Some i
        still (inl q) = subst (λ (y : ℕ). place_of (set places m (Some i)) y ≡ Some i) (sym q.1) (place_set_same places m (Some i) m_within)
        still (inr q) = place_set_other places m (Some i) c q.1 ∙ there

    kept_given : (d : ℕ) → d < min hint c → IsSome (place_of left d)
    kept_given d h = by_code (eqb_tells d m)
      where
        never : d ≢ c
        never e = omega arith

        by_code : Tells (nat_eq d m) (d ≡ m) → IsSome (place_of left d)
        by_code (inl q) = subst (λ (y : ℕ). IsSome (place_of left y)) (sym q.1) (rw (left_moved (λ e. never (q.1 ∙ e))) refl)
        by_code (inr q) = subst IsSome (sym (left_other d never q.1)) (k.given d (omega arith))

    pub released : IsDistinct (pointwise nat_eq) (map (λ p. p.0) (swap_remove pairs i x)) → IsKept bits (swap_remove pairs i x) (set (set places m (Some i)) c None) (min hint c)
    released texts = record {
      some_bits = k.some_bits;
      few_bits = k.few_bits;
      texts = texts;
      placed = kept_placed;
      paired = kept_paired;
      count = kept_count;
      room = (let a = length-set places m (Some i) in let b = length-set (set places m (Some i)) c None in let r = k.room in omega arith);
      reach = (let a = length-set places m (Some i) in let b = length-set (set places m (Some i)) c None in let r = k.reach in omega arith);
      given = kept_given;
    }

-- what a map of the kit says of its look-ups, as books say it
codes_from_lookups : (before after : Pairs) (t : Text) (o : Option ℕ) →
    ((u : Text) → lookup (pointwise nat_eq u) after ≡ cond (pointwise nat_eq t u) o (lookup (pointwise nat_eq u) before)) → (u : Text) → code_of after u ≡ (if bytes_eq t u then o else code_of before u)
codes_from_lookups before after t o says u = sym (code_lookup after u) ∙ (says u ∙ ap (λ r. cond (pointwise nat_eq t u) o r) (code_lookup before u))

pub adds : (before after : Pairs) (t : Text) (c : ℕ) → IsPaired before → IsPaired after → code_of before t ≡ None → after ≡ before ++ (t, c) ∷ [] →
    ((u : Text) → lookup (pointwise nat_eq u) after ≡ cond (pointwise nat_eq t u) (Some c) (lookup (pointwise nat_eq u) before)) → Adds before t c after
adds before after t c p q fresh grown says =
    let codes = codes_from_lookups before after t (Some c) says in
    record { codes = codes; values = values_added before after t c p q fresh codes; count = ap length grown ∙ length-append before ((t, c) ∷ []) }

pub removes : (before after : Pairs) (t : Text) (c : ℕ) → IsPaired before → IsPaired after → value_of before c ≡ Some t → length after + 1 ≡ length before →
    ((u : Text) → lookup (pointwise nat_eq u) after ≡ cond (pointwise nat_eq t u) None (lookup (pointwise nat_eq u) before)) → Removes before t c after
removes before after t c p q there count says =
    let codes = codes_from_lookups before after t None says in
    record { codes = codes; values = values_removed before after t c p q there codes; count = count }

module _ (bits : ℕ) (pairs : Pairs) (places : List (Option ℕ)) (hint : ℕ) (k : IsKept bits pairs places hint) where
  -- the whole step of a give
  pub gives : (t : Text) (c : ℕ) (pairs' : Pairs) (places' : List (Option ℕ)) (n : ℕ) → pairs' ≡ pairs ++ (t, c) ∷ [] → places' ≡ with_place places c → n ≡ length pairs →
      IsDistinct (pointwise nat_eq) (map (λ p. p.0) pairs') → IsFirstFree places hint c → length pairs < 2 ^ bits - 1 →
      IsKept bits pairs' (set places' c (Some n)) (c + 1)
  gives t c pairs' places' n e f g texts first more =
      let below = free_below bits pairs places hint k c first more in
      let longer = reaches bits pairs places hint k c first.within below in
      let texts' = subst (λ p. IsDistinct (pointwise nat_eq) (map (λ q. q.0) p)) e texts in
      let after = added bits pairs (with_place places c) hint longer t c texts' (with_same places c c ∙ first.free) (with_within places c first.within)
      (λ d h. subst IsSome (sym (with_same places c d)) (all_given bits pairs places hint k c first d h)) in
      subst (λ p. IsKept bits p (set places' c (Some n)) (c + 1)) (sym e) (subst (λ q. IsKept bits (pairs ++ (t, c) ∷ []) (set q c (Some n)) (c + 1)) (sym f) (subst (λ (m : ℕ). IsKept bits (pairs ++ (t, c) ∷ []) (set (with_place places c) c (Some m)) (c + 1)) (sym g) after))

  -- and of a want of memory after the list was made to reach the code
  pub reaches_only : (c : ℕ) (pairs' : Pairs) (places' : List (Option ℕ)) → pairs' ≡ pairs → places' ≡ with_place places c → IsFirstFree places hint c → length pairs < 2 ^ bits - 1 →
      IsKept bits pairs' places' hint
  reaches_only c pairs' places' e f first more =
      let longer = reaches bits pairs places hint k c first.within (free_below bits pairs places hint k c first more) in
      subst (λ p. IsKept bits p places' hint) (sym e) (subst (λ q. IsKept bits pairs q hint) (sym f) longer)

  -- what a release reads of the last pair
  pub last_within : (u : Text) (m : ℕ) → slice_get pairs (length pairs - 1) ≡ Some (u, m) → m < length places
  last_within u m last = place_within places m (length pairs - 1) (k.placed (length pairs - 1) u m last)

  -- the whole step of a release
  pub releases : (c i : ℕ) (u : Text) (m : ℕ) (pairs' : Pairs) (r : Option (Text × ℕ)) (h : ℕ) → place_of places c ≡ Some i → slice_get pairs (length pairs - 1) ≡ Some (u, m) →
      r ≡ slice_get pairs i → IfSome r (λ x. pairs' ≡ swap_remove pairs i x) → IsDistinct (pointwise nat_eq) (map (λ p. p.0) pairs') → h ≡ min hint c →
      IsKept bits pairs' (set (set places m (Some i)) c None) h
  releases c i u m pairs' None h there last e f texts g = let p = k.paired c i there in let z : None ≡ Some (p.0, c) = e ∙ p.1 in absurd (cc)
  releases c i u m pairs' (Some x) h there last e f texts g =
      let texts' = subst (λ p. IsDistinct (pointwise nat_eq) (map (λ q. q.0) p)) f texts in
      let after = released bits pairs places hint k c i u m x there last texts' in
      subst (λ (j : ℕ). IsKept bits pairs' (set (set places m (Some i)) c None) j) (sym g) (subst (λ p. IsKept bits p (set (set places m (Some i)) c None) (min hint c)) (sym f) after)

  pub removes_it : (c i : ℕ) (pairs' : Pairs) (r : Option (Text × ℕ)) → place_of places c ≡ Some i → IsPaired pairs' → r ≡ slice_get pairs i →
      length pairs' + (if is_some r then 1 else 0) ≡ length pairs →
      IfSome r (λ x. (u : Text) → lookup (pointwise nat_eq u) pairs' ≡ cond (pointwise nat_eq x.0 u) None (lookup (pointwise nat_eq u) pairs)) →
      IsSomeAnd (value_of pairs c) (λ t. Removes pairs t c pairs')
  removes_it c i pairs' None there q e count says = let p = k.paired c i there in let z : None ≡ Some (p.0, c) = e ∙ p.1 in absurd (cc)
  removes_it c i pairs' (Some x) there q e count says =
      let here : value_of pairs c ≡ Some x.0 = value_read bits pairs places hint k c i x.0 x.1 there (sym e) in
      let before = is_book bits pairs places hint k in
      subst (λ o. IsSomeAnd o (λ t. Removes pairs t c pairs')) (sym here) (removes pairs pairs' x.0 c before.paired q here count says)
