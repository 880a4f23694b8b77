-- A search for a text among the entries of a variable, and what an entry adds once it is done.
use Rattle.std.proofs.Common.{◌≡◌, ◌≢◌, ℕ, zero, suc, ◌+◌, ◌<◌, ◌≤◌, List, [], ◌∷◌, ◌++◌, drop, length, get_or, Some, Bool, true, false, refl, ap, sym, ◌∙◌, append_assoc, append-nil, length-append, arith}
use Rattle.std.specs.Prelude.{slice_get, slice_index_or, nat_eq, if◌then◌else◌, ◌||◌, bytes_eq}
use Rattle.std.specs.List.{list_any}
use Rattle.std.proofs.lemmas.Bool.Decides.{nat_tests}
use Rattle.std.proofs.lemmas.List.{drop_all}
use Rattle.std.proofs.lemmas.List.Folds.{list_any-append}
use Rattle.std.proofs.lemmas.Slice.Eq.{bytes_eq-Decides}
use Rattle.qtl_syntax.specs.Tree.{Text}
use Rattle.subformulas.specs.NeedList.{EntryArgsBelow, entry_texts, texts_for, with_texts}
use Rattle.subformulas.specs.declared.need_list.Need.{Need}
use Rattle.subformulas.proofs.Entries.{all_here, text_first, text_none}

-- the text is none of those of x before place i, which are so many
pub record IsSearched (x : ℕ) (t : Text) (args : List Text) (ns : List Need) (i count : ℕ) :
    Type 0 where
  pub front : List Text
  pub parts : texts_for x args ns ≡ front ++ texts_for x args (drop i ns)
  pub counted : length front ≡ count
  pub none : list_any (bytes_eq t) front ≡ false
  pub few : count ≤ i
  pub within : EntryArgsBelow (length args) (drop i ns)

seam : (ts us : List Text) (t : Text) → slice_get (ts ++ t ∷ us) (length ts) ≡ Some t
seam [] us t = refl
seam (u ∷ ts) us t = seam ts us t

other_text : (b : Bool) (t u : Text) → bytes_eq t u ≡ b → (t ≡ u → ⊥) → (b || false) ≡ false
other_text true t u e other = absurd (other ((bytes_eq-Decides t u).0 e))
other_text false t u e other = refl

neither : (b c : Bool) → b ≡ false → c ≡ false → (b || c) ≡ false
neither b c e f = rw (e, f) refl

module _ (x : ℕ) (t : Text) (args : List Text) (ns : List Need) where
  -- a search begins at the first entry
  pub search_first : EntryArgsBelow (length args) ns → IsSearched x t args ns 0 0
  search_first h = record {
    front = [];
    parts = refl;
    counted = refl;
    none = refl;
    few = omega arith;
    within = h;
  }

  module _ (i count : ℕ) (d : Need) (l : i < length ns) (s : IsSearched x t args ns i count) where
    abbrev here : Text
    here = slice_index_or args (get_or ns i d).arg []

    -- it ends at an entry of x with the text
    pub search_found : (get_or ns i d).variable ≡ x → t ≡ here →
        slice_get (texts_for x args ns) count ≡ Some t
    search_found same is =
        let all : texts_for x args ns ≡ s.front ++ here ∷ texts_for x args (drop (i + 1) ns) =
        s.parts ∙ ap (λ us. s.front ++ us) (text_first x args ns i d l same) in
        ap (λ us. slice_get us count) all
        ∙ ap (λ n. slice_get (s.front ++ here ∷ texts_for x args (drop (i + 1) ns)) n)
        (sym s.counted)
        ∙ seam s.front (texts_for x args (drop (i + 1) ns)) here ∙ ap (λ u. Some u) (sym is)

    -- it goes on at one with another text
    pub search_more : (get_or ns i d).variable ≡ x → (t ≡ here → ⊥) →
        IsSearched x t args ns (i + 1) (count + 1)
    search_more same other = record {
      front = s.front ++ here ∷ [];
      parts = s.parts ∙ ap (λ us. s.front ++ us) (text_first x args ns i d l same)
          ∙ sym (append_assoc s.front (here ∷ []) (texts_for x args (drop (i + 1) ns)));
      counted = let n = length-append s.front (here ∷ []) in let c = s.counted in
          omega (arith, n, c);
      none = list_any-append (bytes_eq t) s.front (here ∷ [])
          ∙ neither _ _ s.none (other_text (bytes_eq t here) t here refl other);
      few = let f = s.few in omega (arith, f);
      within = (all_here (λ n. n.arg < length args) ns i d l s.within).1;
    }

    -- and at one of another variable
    pub search_skip : ((get_or ns i d).variable ≡ x → ⊥) → IsSearched x t args ns (i + 1) count
    search_skip other = record {
      front = s.front;
      parts = s.parts ∙ ap (λ us. s.front ++ us) (text_none x args ns i d l other);
      counted = s.counted;
      none = s.none;
      few = let f = s.few in omega (arith, f);
      within = (all_here (λ n. n.arg < length args) ns i d l s.within).1;
    }

  -- past the last entry the text is none of them
  pub search_none : (i count : ℕ) → length ns ≤ i → IsSearched x t args ns i count →
      (length (texts_for x args ns) ≡ count) × (list_any (bytes_eq t) (texts_for x args ns) ≡ false)
  search_none i count l s =
      let all : texts_for x args ns ≡ s.front =
      s.parts ∙ ap (λ ms. s.front ++ texts_for x args ms) (drop_all i ns l)
      ∙ append-nil s.front in
      (ap (λ us. length us) all ∙ s.counted, ap (λ us. list_any (bytes_eq t) us) all ∙ s.none)

-- ---- what an entry adds

found_first : (b c : Bool) → (b ≡ false → c ≡ true) → (b || c) ≡ true
found_first true c h = refl
found_first false c h = h refl

found_any : (ts : List Text) (n : ℕ) (t : Text) → slice_get ts n ≡ Some t →
    list_any (bytes_eq t) ts ≡ true
found_any [] n t e = absurd (let never : ⊥ = cc in never)
found_any (u ∷ ts) zero t e =
    let same : t ≡ u = cc in
    let yes : bytes_eq t u ≡ true = (bytes_eq-Decides t u).1 same in
    rw yes refl
found_any (u ∷ ts) (suc n) t e =
    found_first (bytes_eq t u) (list_any (bytes_eq t) ts) (λ o. found_any ts n t e)

found_by : (b : Bool) (x : ℕ) (n : Need) (t : Text) (ts : List Text) → nat_eq x n.variable ≡ b →
    (x ≡ n.variable → list_any (bytes_eq t) ts ≡ true) →
    ts ≡ with_texts ts (if b then t ∷ [] else [])
found_by true x n t ts e there =
    let same : x ≡ n.variable = grind (arith, nat_tests) in rw (there same) refl
found_by false x n t ts e there = refl

-- an entry whose text is there adds nothing
pub entry_found : (x : ℕ) (args : List Text) (ns : List Need) (n : Need) (j : ℕ) (t : Text) →
    t ≡ slice_index_or args n.arg [] → slice_get (texts_for n.variable args ns) j ≡ Some t →
    texts_for x args ns ≡ with_texts (texts_for x args ns) (entry_texts x args n)
entry_found x args ns n j t is at =
    found_by (nat_eq x n.variable) x n (slice_index_or args n.arg []) (texts_for x args ns) refl
    (λ same. let any = found_any (texts_for n.variable args ns) j t at in
    rw (← is, same) any)

own_by : (b : Bool) (x : ℕ) (t : Text) → nat_eq x x ≡ b → (if b then t ∷ [] else []) ≡ t ∷ []
own_by true x t e = refl
own_by false x t e = absurd (let never : ⊥ = grind (arith, nat_tests) in never)

-- the texts of an entry for its own variable
pub entry_own : (args : List Text) (n : Need) →
    entry_texts n.variable args n ≡ slice_index_or args n.arg [] ∷ []
entry_own args n =
    own_by (nat_eq n.variable n.variable) n.variable (slice_index_or args n.arg []) refl

other_by : (b : Bool) (x : ℕ) (n : Need) (t : Text) → nat_eq x n.variable ≡ b → x ≢ n.variable →
    (if b then t ∷ [] else []) ≡ []
other_by true x n t e other =
    let same : x ≡ n.variable = grind (arith, nat_tests) in absurd (other same)
other_by false x n t e other = refl

-- and for another one
pub entry_other : (x : ℕ) (args : List Text) (n : Need) → x ≢ n.variable →
    entry_texts x args n ≡ []
entry_other x args n other =
    other_by (nat_eq x n.variable) x n (slice_index_or args n.arg []) refl other

-- a new entry's text stands behind those that there were
pub entry_last : (args : List Text) (before after : List Need) (n : Need) (count : ℕ) (t : Text) →
    t ≡ slice_index_or args n.arg [] →
    texts_for n.variable args after ≡
    with_texts (texts_for n.variable args before) (entry_texts n.variable args n) →
    length (texts_for n.variable args before) ≡ count →
    list_any (bytes_eq t) (texts_for n.variable args before) ≡ false →
    slice_get (texts_for n.variable args after) count ≡ Some t
entry_last args before after n count t is adds counts new =
    let ts = texts_for n.variable args before in
    let fresh : with_texts ts (t ∷ []) ≡ ts ++ t ∷ [] = rw new refl in
    let own : entry_texts n.variable args n ≡ t ∷ [] =
    entry_own args n ∙ ap (λ u. u ∷ []) (sym is) in
    let all : texts_for n.variable args after ≡ ts ++ t ∷ [] =
    adds ∙ ap (λ us. with_texts ts us) own ∙ fresh in
    ap (λ us. slice_get us count) all ∙ ap (λ k. slice_get (ts ++ t ∷ []) k) (sym counts)
    ∙ seam ts [] t
