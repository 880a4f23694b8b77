-- The uses of atoms: what the place of a variable adds, and that uses stay right as more come.
use Rattle.std.proofs.Common.{◌≡◌, ◌≢◌, ℕ, zero, suc, ◌+◌, ◌-◌, ◌<◌, ◌≤◌, ◌⊎◌, inl, inr, ⊎_elim, List, [], ◌∷◌, ◌++◌, take, drop, length, Option, Some, None, Bool, true, false, refl, ap, sym, ◌∙◌, subst, append_assoc, append-nil, length-append, add-one, arith}
use Rattle.std.specs.Prelude.{MatchBool, slice_get, slice_index_or, nat_eq, if◌then◌else◌, bytes_eq}
use Rattle.std.specs.List.{AllByRecursion, flat_map, list_any}
use Rattle.std.specs.Option.{option_and_then}
use Rattle.std.proofs.lemmas.Bool.Decides.{eqb_tells, nat_tests}
use Rattle.std.proofs.lemmas.List.{drop-append-le, take-append-le, get_or_append_left, get_or_past, take_all}
use Rattle.std.proofs.lemmas.List.Concat.{flat_map-append}
use Rattle.std.proofs.lemmas.Option.{slice_get-get_or, slice_get_within}
use Rattle.std.proofs.Math.Seq.{drop-append_seam, get_or-append_seam}
use Rattle.std.proofs.lemmas.Bool.{cases_lt}
use Rattle.qtl_syntax.specs.Tree.{Text}
use Rattle.qtl_truth.specs.Matching.{arg_at, place_variables, ArgsBelow, Binds}
use Rattle.qtl_truth.specs.declared.event.Event.{Event}
use Rattle.qtl_truth.specs.declared.matching.Place.{Place}
use Rattle.qtl_truth.specs.declared.numbered_atom.Atom.{Atom}
use Rattle.subformulas.specs.Adding.{place_text, AddsKind, AddsUse, AddsUses, AreListed, IsFilled}
use Rattle.subformulas.specs.Facts.{fact_of}
use Rattle.subformulas.specs.Matched.{items_of, AreUses, AreUsesBelow, AreWithin, IsMatched, IsUse, IsWithin}
use Rattle.subformulas.specs.NeedList.{AreByVariable, EntryArgsBelow, EntryVariablesBelow, entry_texts, texts_for, with_text, with_texts}
use Rattle.subformulas.specs.Needs.{fits, given, need, needed_by}
use Rattle.subformulas.specs.Table.{AreBelow}
use Rattle.subformulas.specs.Texts.{as_list, unrepeated}
use Rattle.subformulas.specs.declared.need_list.Need.{Need}
use Rattle.subformulas.specs.declared.need_list.Stretch.{Stretch}
use Rattle.subformulas.specs.declared.need_list.Use.{Use}
use Rattle.subformulas.specs.declared.table.Kind.{Kind}
use Rattle.subformulas.specs.declared.table.Kind.TheVariants as kind
use Rattle.subformulas.specs.declared.table.Sub.{Sub}
use Rattle.subformulas.proofs.Binding.{below_variables, binding_fits, given_none, given_some}
use Rattle.subformulas.proofs.Searching.{entry_own, entry_other}
use Rattle.subformulas.proofs.Unrepeated.{unrepeated_more}

-- ---- needed texts stay where they stand

front_stays : (ts us : List Text) (n : ℕ) (t : Text) → slice_get ts n ≡ Some t →
    slice_get (ts ++ us) n ≡ Some t
front_stays [] us n t e = absurd (let never : ⊥ = cc in never)
front_stays (u ∷ ts) us zero t e = e
front_stays (u ∷ ts) us (suc n) t e = front_stays ts us n t e

text_stays : (b : Bool) (ts : List Text) (u : Text) (n : ℕ) (t : Text) → slice_get ts n ≡ Some t →
    slice_get (if b then ts else ts ++ u ∷ []) n ≡ Some t
text_stays true ts u n t e = e
text_stays false ts u n t e = front_stays ts (u ∷ []) n t e

texts_stay : (ts us : List Text) (n : ℕ) (t : Text) → slice_get ts n ≡ Some t →
    slice_get (with_texts ts us) n ≡ Some t
texts_stay ts [] n t e = e
texts_stay ts (u ∷ us) n t e =
    texts_stay (with_text ts u) us n t (text_stays (list_any (bytes_eq u) ts) ts u n t e)

longer_text : (b : Bool) (ts : List Text) (u : Text) →
    length ts ≤ length (if b then ts else ts ++ u ∷ [])
longer_text true ts u = omega arith
longer_text false ts u = let e = length-append ts (u ∷ []) in omega (arith, e)

longer_texts : (ts us : List Text) → length ts ≤ length (with_texts ts us)
longer_texts ts [] = omega arith
longer_texts ts (u ∷ us) =
    let a = longer_text (list_any (bytes_eq u) ts) ts u in
    let b = longer_texts (with_text ts u) us in
    omega (arith, a, b)

-- the texts that each variable needs stand in front of those that it needs afterwards
abbrev pub Grows : (args : List Text) → (before after : List Need) → Type 0
Grows args before after =
    (x : ℕ) → (us : List Text) × (texts_for x args after ≡ with_texts (texts_for x args before) us)

module _ (args : List Text) (before after : List Need) (g : Grows args before after) where
  still : (x n : ℕ) (t : Text) → slice_get (texts_for x args before) n ≡ Some t →
      slice_get (texts_for x args after) n ≡ Some t
  still x n t e =
      ap (λ ts. slice_get ts n) (g x).1 ∙ texts_stay (texts_for x args before) (g x).0 n t e

  no_fewer : (x : ℕ) → length (texts_for x args before) ≤ length (texts_for x args after)
  no_fewer x =
      let l = longer_texts (texts_for x args before) (g x).0 in
      let e = ap (λ ts. length ts) (g x).1 in
      omega (arith, l, e)

  -- so a use stays one
  use_stays : (x : ℕ) (o : Option Text) (us : List Use) → IsUse args before x o us →
      IsUse args after x o us
  use_stays x None us h = h
  use_stays x (Some t) us (u, e, v, at) = (u, e, v, still x u.nth t at)

  -- and so do all
  uses_stay : (text : ℕ → Option Text) (n : ℕ) (us : List Use) → AreUses args before text n us →
      AreUses args after text n us
  uses_stay text zero us h = h
  uses_stay text (suc n) us (front, own, e, fs, os) =
      (front, own, e, uses_stay text n front fs, use_stays n (text n) own os)

  below_stay : (n : ℕ) (us : List Use) → AreUsesBelow n args before us →
      AreUsesBelow n args after us
  below_stay n [] h = tt
  below_stay n (u ∷ us) h = (
    (h.0.0, let l = h.0.1 in let m = no_fewer u.variable in omega (arith, l, m)),
    below_stay n us h.1,
  )

-- ---- what a use adds

all_behind : (P : Use → Type 0) (us vs : List Use) → AllByRecursion P us → AllByRecursion P vs →
    AllByRecursion P (us ++ vs)
all_behind P [] vs h k = k
all_behind P (u ∷ us) vs h k = (h.0, all_behind P us vs h.1 k)

use_below : (n : ℕ) (args : List Text) (ns : List Need) (x : ℕ) (o : Option Text) (us : List Use) →
    x < n → IsUse args ns x o us → AreUsesBelow n args ns us
use_below n args ns x None us l h = rw h tt
use_below n args ns x (Some t) us l (u, e, v, at) =
    let within = slice_get_within (texts_for x args ns) u.nth t at in
    let below : (u.variable < n) × (u.nth < length (texts_for u.variable args ns)) =
    rw v (l, within) in
    rw e (below, tt)

module _ (args : List Text) (x : ℕ) (text : Option Text) (before after : List Need)
    (old new : List Use) (a : AddsUse args x text before after old new) where
  -- a use makes the needs grow
  pub grows_use : Grows args before after
  grows_use y = by_test (eqb_tells y x)
    where
      by_test : ((nat_eq y x ≡ true) × (y ≡ x)) ⊎ ((nat_eq y x ≡ false) × (y ≢ x)) →
          (us : List Text) ×
          (texts_for y args after ≡ with_texts (texts_for y args before) us)
      by_test (inl q) = (as_list text, rw q.1 a.own)
      by_test (inr q) = ([], a.others y q.1)

  -- and leaves a list of that shape
  pub listed_more : (v : ℕ) → x < v → AreListed v args before old → AreByVariable after →
      EntryArgsBelow (length args) after → EntryVariablesBelow v after → AreListed v args after new
  listed_more v l h order within below = record {
    order = order;
    within = within;
    below = below;
    uses_below = rw a.behind
        (all_behind (λ u. (u.variable < v) × (u.nth < length (texts_for u.variable args after)))
        old a.added (below_stay args before after grows_use v old h.uses_below)
        (use_below v args after x text a.added l a.is_use));
  }

-- the entry and the use of a variable that has a place
pub use_added : (args : List Text) (ps : List Place) (x k nth : ℕ) (before after : List Need)
    (old new : List Use) → arg_at ps x ≡ Some k → k < length args →
    ((y : ℕ) → texts_for y args after ≡ with_texts (texts_for y args before)
    (entry_texts y args (record { variable = x; arg = k }))) →
    slice_get (texts_for x args after) nth ≡ slice_get args k →
    new ≡ old ++ record { variable = x; nth = nth } ∷ [] →
    AddsUse args x (place_text args ps x) before after old new
use_added args ps x k nth before after old new at l texts here behind =
    let n : Need = record { variable = x; arg = k } in
    let t = slice_index_or args k [] in
    let u : Use = record { variable = x; nth = nth } in
    let got : slice_get args k ≡ Some t = slice_get-get_or args k [] l in
    let text : place_text args ps x ≡ Some t = ap (option_and_then (slice_get args)) at ∙ got in
    record {
      own = texts x ∙ ap (λ ts. with_texts (texts_for x args before) ts)
          (entry_own args n ∙ sym (ap as_list text));
      others = λ y other. texts y ∙ ap (λ ts. with_texts (texts_for y args before) ts)
          (entry_other y args n other);
      added = u ∷ [];
      behind = behind;
      is_use = subst (λ o. IsUse args after x o (u ∷ [])) (sym text) (u, refl, refl, here ∙ got);
    }

-- before the first variable nothing is added
pub uses_first : (args : List Text) (text : ℕ → Option Text) (ns : List Need) (us : List Use) →
    AddsUses args 0 text ns ns us us
uses_first args text ns us = record {
  own = λ x l. absurd (omega (arith, l));
  later = λ x l. refl;
  added = [];
  behind = sym (append-nil us);
  are_uses = refl;
}

-- one variable more
pub uses_more : (args : List Text) (n : ℕ) (text : ℕ → Option Text) (before mid after : List Need)
    (old now new : List Use) → AddsUses args n text before mid old now →
    AddsUse args n (text n) mid after now new → AddsUses args (n + 1) text before after old new
uses_more args n text before mid after old now new m a = record {
  own = λ x l. own_by x l (eqb_tells x n);
  later = λ x l. a.others x (λ e. omega (arith, l, e)) ∙ m.later x (omega (arith, l));
  added = m.added ++ a.added;
  behind = a.behind ∙ ap (λ us. us ++ a.added) m.behind ∙ append_assoc old m.added a.added;
  are_uses = rw add-one (
    m.added,
    a.added,
    refl,
    uses_stay args mid after (grows_use args n (text n) mid after now new a) text n m.added
        m.are_uses,
    a.is_use,
  );
}
  where
    own_by : (x : ℕ) → x < n + 1 →
        ((nat_eq x n ≡ true) × (x ≡ n)) ⊎ ((nat_eq x n ≡ false) × (x ≢ n)) →
        texts_for x args after ≡ with_texts (texts_for x args before) (as_list (text x))
    own_by x l (inl q) =
        rw q.1 (a.own ∙ ap (λ ts. with_texts ts (as_list (text n))) (m.later n (omega arith)))
    own_by x l (inr q) =
        let other = q.1 in
        a.others x other ∙ m.own x (omega (arith, l, other))

-- ---- what an atom adds

-- the argument of a place is one of the event's
pub arg_below : (n : ℕ) (ps : List Place) (x k : ℕ) → ArgsBelow n ps → arg_at ps x ≡ Some k → k < n
arg_below n [] x k h e = absurd (let never : ⊥ = cc in never)
arg_below n (p ∷ ps) x k h e =
    elim (nat_eq p.variable x) as
    (λ b. (if b then Some p.arg else arg_at ps x) ≡ Some k → k < n) [
      | true ↦ λ i. (let q : p.arg ≡ k = cc in subst (λ (j : ℕ). j < n) q h.0)
      | false ↦ λ i. arg_below n ps x k h.1 i
    ] e

no_arg_by : (b : Bool) (v x y k : ℕ) (o : Option ℕ) → nat_eq y x ≡ b → y < v → v ≤ x → o ≡ None →
    (if b then Some k else o) ≡ None
no_arg_by true v x y k o e l m h =
    absurd (let same : y ≡ x = grind (arith, nat_tests) in omega (arith, l, m, same))
no_arg_by false v x y k o e l m h = h

no_arg : (v : ℕ) (ps : List Place) (x : ℕ) → AllByRecursion (λ y. y < v) (place_variables ps) →
    v ≤ x → arg_at ps x ≡ None
no_arg v [] x h l = refl
no_arg v (p ∷ ps) x h l =
    no_arg_by (nat_eq p.variable x) v x p.variable p.arg (arg_at ps x) refl h.0 l
    (no_arg v ps x h.1 l)

uses_same : (args : List Text) (ns : List Need) (f g : ℕ → Option Text) (n : ℕ) (us : List Use) →
    ((x : ℕ) → f x ≡ g x) → AreUses args ns f n us → AreUses args ns g n us
uses_same args ns f g zero us same h = h
uses_same args ns f g (suc n) us same (front, own, e, fs, os) = (
  front,
  own,
  e,
  uses_same args ns f g n front same fs,
  subst (λ o. IsUse args ns n o own) (same n) os,
)

-- a stretch up to the end of a list
stretch_of : List Use → List Use → Stretch
stretch_of old new = record { from = length old; to = length new }

items_last : (old added new : List Use) → new ≡ old ++ added →
    take (length new - length old) (drop (length old) new) ≡ added
items_last old added new e =
    let seam : drop (length old) new ≡ added =
    ap (λ us. drop (length old) us) e ∙ drop-append_seam old added in
    let count : length new - length old ≡ length added =
    (let a = ap (λ us. length us) e in let b = length-append old added in omega (arith, a, b)) in
    rw (count, seam) (take_all (length added) added (omega arith))

module _ (v : ℕ) (a : Atom) (e : Event) (b : List Place) (h : Binds a e b) where
  -- the places of a binding give what the atom is given
  place_given : (x : ℕ) → place_text e.args b x ≡ given a.terms e.args x
  place_given x = by_arg (arg_at b x) refl
    where
      by_arg : (o : Option ℕ) → arg_at b x ≡ o →
          option_and_then (slice_get e.args) o ≡ given a.terms e.args x
      by_arg None at = sym (given_none a e b x h at)
      by_arg (Some k) at = sym (given_some a e b x k h at)

  module _ (below : AreBelow v a.terms) (before after : List Need) (old new : List Use)
      (u : AddsUses e.args v (place_text e.args b) before after old new) where
    texts_more : (x : ℕ) → texts_for x e.args after ≡
        with_texts (texts_for x e.args before) (as_list (given a.terms e.args x))
    texts_more x = ⊎_elim small large (cases_lt x v)
      where
        small : x < v → texts_for x e.args after ≡
            with_texts (texts_for x e.args before) (as_list (given a.terms e.args x))
        small l =
            u.own x l
            ∙ ap (λ o. with_texts (texts_for x e.args before) (as_list o)) (place_given x)

        large : v ≤ x → texts_for x e.args after ≡
            with_texts (texts_for x e.args before) (as_list (given a.terms e.args x))
        large l =
            let none = given_none a e b x h
            (no_arg v b x (rw h.each (below_variables v a.terms below)) l) in
            rw none (u.later x l)

    -- an atom with a binding adds what the places add
    pub adds_atom : (r : Stretch) → r.from ≡ length old → r.to ≡ length new →
        AddsKind v e (kind.Atom a) before after old new (Some r)
    adds_atom r from to = record {
      texts = λ x. rw (binding_fits a e b h)
          (texts_more x
          ∙ ap (λ ts. with_texts (texts_for x e.args before) ts)
          (sym (append-nil (as_list (given a.terms e.args x)))));
      added = u.added;
      behind = u.behind;
      matched = λ c same. let is : a ≡ c = cc in
          subst (λ d. IsMatched v e after new d (Some r)) is
          (rw (binding_fits a e b h) (
            r,
            refl,
            subst (AreUses e.args after (given a.terms e.args) v) (sym items)
                (uses_same e.args after (place_text e.args b) (given a.terms e.args) v u.added place_given
                u.are_uses),
          ));
      within = λ q same. let is : r ≡ q = cc in
          subst (λ (p : Stretch). (p.from ≤ p.to) × (p.to ≤ length new)) is
          (let n = ap (λ us. length us) u.behind in let m = length-append old u.added in
          (omega (arith, from, to, n, m), omega (arith, to)));
    }
      where
        items : items_of r new ≡ u.added
        items = rw (from, to) (items_last old u.added new u.behind)

no_stretch : (count : ℕ) → IsWithin count None
no_stretch count r e = absurd (let never : ⊥ = cc in never)

-- one that doesn't fit the event adds nothing
pub adds_none : (v : ℕ) (a : Atom) (e : Event) (ns : List Need) (us : List Use) →
    fits a (fact_of e) ≡ false → AddsKind v e (kind.Atom a) ns ns us us None
adds_none v a e ns us unfit = record {
  texts = λ x. rw unfit refl;
  added = [];
  behind = sym (append-nil us);
  matched = λ c same. let is : a ≡ c = cc in
      subst (λ d. IsMatched v e ns us d None) is (rw unfit refl);
  within = no_stretch (length us);
}

needs_none : (k : Kind) (x : ℕ) (e : Event) → ((a : Atom) → k ≡ kind.Atom a → ⊥) →
    needed_by x e k ≡ []
needs_none (kind.Atom a) x e n = absurd (n a refl)
needs_none _ x e n = refl

-- and so does another kind
pub adds_nothing : (v : ℕ) (k : Kind) (e : Event) (ns : List Need) (us : List Use) →
    ((a : Atom) → k ≡ kind.Atom a → ⊥) → AddsKind v e k ns ns us us None
adds_nothing v k e ns us other = record {
  texts = λ x. rw (needs_none k x e other) refl;
  added = [];
  behind = sym (append-nil us);
  matched = λ a same. absurd (other a same);
  within = no_stretch (length us);
}

-- ---- what all subformulas add

items_front : (r : Stretch) (us vs : List Use) → r.from ≤ r.to → r.to ≤ length us →
    take (r.to - r.from) (drop r.from (us ++ vs)) ≡ take (r.to - r.from) (drop r.from us)
items_front r us vs l m =
    ap (λ ws. take (r.to - r.from) ws) (drop-append-le r.from us vs (omega (arith, l, m)))
    ∙ take-append-le (r.to - r.from) (drop r.from us) vs (room us r.from r.to l m)
  where
    room : (ws : List Use) (i j : ℕ) → i ≤ j → j ≤ length ws → j - i ≤ length (drop i ws)
    room ws zero j p q = omega (arith, q)
    room [] (suc i) j p q = omega (arith, p, q)
    room (w ∷ ws) (suc i) j p q =
        let more = room ws i (j - 1) (omega (arith, p)) (omega (arith, q)) in omega (arith, more)

matched_by : (c : Bool) (variables : ℕ) (args : List Text) (text : ℕ → Option Text)
    (before after : List Need) (old added new : List Use) (slot : Option Stretch) →
    Grows args before after → new ≡ old ++ added → IsWithin (length old) slot →
    MatchBool c
    ((r : Stretch) × (slot ≡ Some r) × AreUses args before text variables (items_of r old))
    (slot ≡ None) →
    MatchBool c
    ((r : Stretch) × (slot ≡ Some r) × AreUses args after text variables (items_of r new))
    (slot ≡ None)
matched_by true variables args text before after old added new slot g behind within (r, at, us) =
    let w = within r at in
    let same : items_of r new ≡ items_of r old =
    ap (λ vs. items_of r vs) behind ∙ items_front r old added w.0 w.1 in (
      r,
      at,
      subst (AreUses args after text variables) (sym same)
          (uses_stay args before after g text variables (items_of r old) us),
    )
matched_by false variables args text before after old added new slot g behind within h = h

last_cases : (subs : List Sub) (s : Sub) (j : ℕ) (u : Sub) → slice_get (subs ++ s ∷ []) j ≡ Some u →
    (slice_get subs j ≡ Some u) ⊎ ((j ≡ length subs) × (s ≡ u))
last_cases [] s zero u e = inr (refl, let same : s ≡ u = cc in same)
last_cases [] s (suc j) u e = absurd (let never : ⊥ = cc in never)
last_cases (r ∷ subs) s zero u e = inl e
last_cases (r ∷ subs) s (suc j) u e =
    ⊎_elim (λ p. inl p) (λ q. inr (let p = q.0 in omega (arith, p), q.1))
    (last_cases subs s j u e)

-- the needs of one subformula more
need_more : (subs : List Sub) (s : Sub) (x : ℕ) (e : Event) →
    need (subs ++ s ∷ []) x e ≡ with_texts (need subs x e) (needed_by x e s.kind)
need_more subs s x e =
    let by = λ (r : Sub). needed_by x e r.kind in
    ap unrepeated (flat_map-append by subs (s ∷ [])
    ∙ ap (λ ts. flat_map by subs ++ ts) (append-nil (by s)))
    ∙ unrepeated_more (flat_map by subs) (by s)

-- before the first subformula a list is empty
pub filled_first : (v : ℕ) (e : Event) → IsFilled v [] e [] [] []
filled_first v e = record {
  texts = λ x. refl;
  matched = λ k s a at is. absurd (let never : ⊥ = cc in never);
  within = λ k r e. absurd (let never : ⊥ = cc in never);
  count = refl;
}

module _ (v : ℕ) (subs : List Sub) (s : Sub) (e : Event) (before after : List Need)
    (old new : List Use) (slots : List (Option Stretch)) (slot : Option Stretch)
    (f : IsFilled v subs e before old slots) (k : AddsKind v e s.kind before after old new slot)
  where
    grows : Grows e.args before after
    grows x = (needed_by x e s.kind, k.texts x)

    slot_before : (j : ℕ) → j < length slots →
        slice_index_or (slots ++ slot ∷ []) j None ≡ slice_index_or slots j None
    slot_before j l = get_or_append_left slots (slot ∷ []) None j l

    slot_last : (j : ℕ) → j ≡ length slots → slice_index_or (slots ++ slot ∷ []) j None ≡ slot
    slot_last j is = rw is (get_or-append_seam slots slot [] None)

    uses_count : length old ≤ length new
    uses_count =
        let n = ap (λ us. length us) k.behind in let m = length-append old k.added in
        omega (arith, n, m)

    within_more : AreWithin (length new) (slots ++ slot ∷ [])
    within_more j = ⊎_elim early (λ m. by_last m (eqb_tells j (length slots)))
        (cases_lt j (length slots))
      where
        early : j < length slots → IsWithin (length new) (slice_index_or (slots ++ slot ∷ []) j None)
        early l r at =
            let w = f.within j r (sym (slot_before j l) ∙ at) in
            (w.0, let m = w.1 in let n = uses_count in omega (arith, m, n))

        by_last : length slots ≤ j →
            ((nat_eq j (length slots) ≡ true) × (j ≡ length slots)) ⊎
            ((nat_eq j (length slots) ≡ false) × (j ≢ length slots)) →
            IsWithin (length new) (slice_index_or (slots ++ slot ∷ []) j None)
        by_last m (inl q) r at = k.within r (sym (slot_last j q.1) ∙ at)
        by_last m (inr q) r at =
            let other = q.1 in
            let n = length-append slots (slot ∷ []) in
            let past : slice_index_or (slots ++ slot ∷ []) j None ≡ None =
            get_or_past (slots ++ slot ∷ []) j None (omega (arith, m, other, n)) in
            absurd (let no : None ≡ Some r = sym past ∙ at in let never : ⊥ = cc in never)

    -- one subformula more
    pub filled_more : IsFilled v (subs ++ s ∷ []) e after new (slots ++ slot ∷ [])
    filled_more = record {
      texts = λ x.
          k.texts x ∙ ap (λ ts. with_texts ts (needed_by x e s.kind)) (f.texts x)
          ∙ sym (need_more subs s x e);
      matched = λ j u a at is. ⊎_elim (early j u a is) (last j u a is) (last_cases subs s j u at);
      within = within_more;
      count = let c = f.count in
          let n = length-append slots (slot ∷ []) in
          let m = length-append subs (s ∷ []) in
          omega (arith, c, n, m);
    }
      where
        early : (j : ℕ) (u : Sub) (a : Atom) → u.kind ≡ kind.Atom a → slice_get subs j ≡ Some u →
            IsMatched v e after new a (slice_index_or (slots ++ slot ∷ []) j None)
        early j u a is at =
            let l = slice_get_within subs j u at in
            let c = f.count in
            subst (IsMatched v e after new a) (sym (slot_before j (omega (arith, l, c))))
            (matched_by (fits a (fact_of e)) v e.args (given a.terms e.args) before after old k.added
            new (slice_index_or slots j None) grows k.behind (f.within j) (f.matched j u a at is))

        last : (j : ℕ) (u : Sub) (a : Atom) → u.kind ≡ kind.Atom a →
            ((j ≡ length subs) × (s ≡ u)) →
            IsMatched v e after new a (slice_index_or (slots ++ slot ∷ []) j None)
        last j u a is (place, same) =
            subst (IsMatched v e after new a) (sym (slot_last j (place ∙ sym f.count)))
            (k.matched a (ap (λ (w : Sub). w.kind) same ∙ is))
