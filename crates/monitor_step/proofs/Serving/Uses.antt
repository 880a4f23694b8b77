-- The codes of uses are those of the atoms.
use Rattle.std.proofs.Common.{◌≡◌, ◌≢◌, ℕ, zero, suc, ◌+◌, ◌-◌, ◌*◌, ◌<◌, ◌≤◌, List, [], ◌∷◌, ◌++◌, take, drop, length, Option, Some, None, Bool, true, false, refl, ap, sym, ◌∙◌, subst, append-nil, append_assoc, arith}
use Rattle.std.specs.Prelude.{MatchBool, slice_get, slice_index_or}
use Rattle.std.specs.List.{All, AllByRecursion}
use Rattle.std.specs.Option.{option_and_then}
use Rattle.std.proofs.lemmas.List.{take_more}
use Rattle.std.proofs.lemmas.List.Elements.{All-from_recursion, All-push}
use Rattle.std.proofs.lemmas.Option.{slice_get-get_or}
use Rattle.qtl_syntax.specs.Tree.{Text}
use Rattle.qtl_truth.specs.declared.event.Event.{Event}
use Rattle.qtl_truth.specs.declared.numbered_atom.Atom.{Atom}
use Rattle.bdd_ops.specs.Codes.{block_code_literals, code_list_literals, code_literals, HasLevels}
use Rattle.bdd_ops.specs.declared.code_cubes.BlockCode.{BlockCode}
use Rattle.subformulas.specs.Facts.{Fact, fact_of}
use Rattle.subformulas.specs.Matched.{items_of, AreMatched, AreUses, AreUsesBelow, IsUse}
use Rattle.subformulas.specs.NeedList.{texts_for}
use Rattle.subformulas.specs.Needs.{fits, given}
use Rattle.subformulas.specs.declared.need_list.Need.{Need}
use Rattle.subformulas.specs.declared.need_list.Stretch.{Stretch}
use Rattle.subformulas.specs.declared.need_list.Use.{Use}
use Rattle.value_codes.specs.Pairs.{Pairs, code_of}
use Rattle.monitor_model.specs.Rows.{Frame, block_literals, fact_literals, given_code}
use Rattle.monitor_step.specs.Coded.{code_at, AreCoded, AreCodes, IsCoding, Served}

-- ---- parts of a list of codes

coding_drop : (bits : ℕ) (served : Served) (n : ℕ) (us : List Use) (cs : List BlockCode) →
    IsCoding bits served us cs → IsCoding bits served (drop n us) (drop n cs)
coding_drop bits served zero us cs h = h
coding_drop bits served (suc n) [] cs h = rw h refl
coding_drop bits served (suc n) (u ∷ us) cs (c, rest, e, at, h) =
    rw e (coding_drop bits served n us rest h)

coding_take : (bits : ℕ) (served : Served) (n : ℕ) (us : List Use) (cs : List BlockCode) →
    IsCoding bits served us cs → IsCoding bits served (take n us) (take n cs)
coding_take bits served zero us cs h = refl
coding_take bits served (suc n) [] cs h = rw h refl
coding_take bits served (suc n) (u ∷ us) cs (c, rest, e, at, h) =
    rw e (c, take n rest, refl, at, coding_take bits served n us rest h)

coding_split : (bits : ℕ) (served : Served) (fs bs : List Use) (cs : List BlockCode) →
    IsCoding bits served (fs ++ bs) cs →
    (front : List BlockCode) × (back : List BlockCode) × (cs ≡ front ++ back) ×
    IsCoding bits served fs front × IsCoding bits served bs back
coding_split bits served [] bs cs h = ([], cs, refl, refl, h)
coding_split bits served (u ∷ fs) bs cs (c, rest, e, at, h) =
    let (front, back, same, f, b) = coding_split bits served fs bs rest h in
    let one : BlockCode = record { block = record { first = u.variable * bits; bits = bits }; code = c } in
    (one ∷ front, back, e ∙ ap (λ xs. one ∷ xs) same, (c, front, refl, at, f), b)

literals_behind : (fs bs : List BlockCode) →
    code_list_literals (fs ++ bs) ≡ code_list_literals fs ++ code_list_literals bs
literals_behind [] bs = refl
literals_behind (f ∷ fs) bs =
    ap (λ ls. block_code_literals f ++ ls) (literals_behind fs bs)
    ∙ sym (append_assoc (block_code_literals f) (code_list_literals fs) (code_list_literals bs))

-- ---- the codes of an atom

module _ (fr : Frame) (entries : List Need) (served : Served)
    (codes : AreCodes fr.setting.variables fr.event entries fr.books served) where
  -- those of one variable
  use_coded : (q : Fact) (a : Atom) (x : ℕ) (us : List Use) (cs : List BlockCode) →
      x < fr.setting.variables → (o : Option Text) → given a.terms q.args x ≡ o →
      IsUse fr.event.args entries x o us → IsCoding fr.setting.bits served us cs →
      code_list_literals cs ≡ block_literals fr.setting x (given_code fr.books a q x)
  use_coded q a x us cs l None is u h =
      let none : given_code fr.books a q x ≡ None = ap (option_and_then (code_of (fr.books x))) is in
      let empty : cs ≡ [] = subst (λ (vs : List Use). IsCoding fr.setting.bits served vs cs) u h in
      ap code_list_literals empty ∙ sym (ap (block_literals fr.setting x) none)
  use_coded q a x us cs l (Some t) is (u, e, v, at) h =
      let k = subst (λ (vs : List Use). IsCoding fr.setting.bits served vs cs) e h in
      let (c, rest, same, here, last) = k in
      let (d, there, coded) = codes x u.nth t l at in
      let one : Some c ≡ Some d = sym here ∙ ap (λ (y : ℕ). code_at served y u.nth) v ∙ there in
      let is_c : d ≡ c = cc in
      let given_is : given_code fr.books a q x ≡ Some c =
      ap (option_and_then (code_of (fr.books x))) is ∙ coded ∙ ap (λ (j : ℕ). Some j) is_c in
      let part : BlockCode =
      record { block = record { first = u.variable * fr.setting.bits; bits = fr.setting.bits }; code = c } in
      ap code_list_literals (same ∙ ap (λ (r : List BlockCode). part ∷ r) last)
      ∙ append-nil (block_code_literals part)
      ∙ ap (λ (y : ℕ). code_literals (y * fr.setting.bits) fr.setting.bits c) v
      ∙ sym (ap (block_literals fr.setting x) given_is)

  -- those of the variables below n
  uses_coded : (q : Fact) (a : Atom) (n : ℕ) (us : List Use) (cs : List BlockCode) →
      n ≤ fr.setting.variables → AreUses fr.event.args entries (given a.terms q.args) n us →
      IsCoding fr.setting.bits served us cs → code_list_literals cs ≡ fact_literals fr a q n
  uses_coded q a zero us cs l h k = ap code_list_literals (subst (λ (vs : List Use). IsCoding fr.setting.bits served vs cs) h k)
  uses_coded q a (suc n) us cs l (front, own, e, fs, os) k =
      let (first, last, same, f, o) = coding_split fr.setting.bits served front own cs
      (subst (λ (vs : List Use). IsCoding fr.setting.bits served vs cs) e k) in
      ap code_list_literals same ∙ literals_behind first last
      ∙ ap (λ ls. ls ++ code_list_literals last)
      (uses_coded q a n front first (omega (arith, l)) fs f)
      ∙ ap (λ ls. fact_literals fr a q n ++ ls)
      (use_coded q a n own last (omega (arith, l)) (given a.terms q.args n) refl os o)

  matched_coded : (b : Bool) (a : Atom) (uses : List Use) (coded : List BlockCode)
      (slot : Option Stretch) → IsCoding fr.setting.bits served uses coded →
      MatchBool b
      ((r : Stretch) × (slot ≡ Some r) ×
      AreUses fr.event.args entries (given a.terms fr.event.args) fr.setting.variables
      (items_of r uses))
      (slot ≡ None) →
      MatchBool b
      ((r : Stretch) × (slot ≡ Some r) ×
      (code_list_literals (items_of r coded) ≡
      fact_literals fr a (fact_of fr.event) fr.setting.variables))
      (slot ≡ None)
  matched_coded true a uses coded slot k (r, at, us) = (
    r,
    at,
    uses_coded (fact_of fr.event) a fr.setting.variables (items_of r uses)
        (items_of r coded) (omega arith) us
        (coding_take fr.setting.bits served (r.to - r.from) (drop r.from uses) (drop r.from coded)
        (coding_drop fr.setting.bits served r.from uses coded k)),
  )
  matched_coded false a uses coded slot k h = h

-- so of all atoms
pub are_coded : (fr : Frame) (entries : List Need) (served : Served) (uses : List Use)
    (coded : List BlockCode) (matched : List (Option Stretch)) (bits : ℕ) →
    IsCoding bits served uses coded → fr.setting.bits ≡ bits →
    AreMatched fr.setting.variables fr.setting.subs fr.event entries uses matched →
    AreCodes fr.setting.variables fr.event entries fr.books served →
    AreCoded fr fr.setting.subs coded matched
are_coded fr entries served uses coded matched bits k same all codes j s a at is =
    matched_coded fr entries served codes (fits a (fact_of fr.event)) a uses coded
    (slice_index_or matched j None)
    (subst (λ (n : ℕ). IsCoding n served uses coded) (sym same) k) (all j s a at is)

-- ---- what the function has

coding_count : (bits : ℕ) (served : Served) (us : List Use) (cs : List BlockCode) →
    IsCoding bits served us cs → length cs ≡ length us
coding_count bits served [] cs h = ap (λ (xs : List BlockCode). length xs) h
coding_count bits served (u ∷ us) cs (c, rest, e, at, h) =
    ap (λ (xs : List BlockCode). length xs) e
    ∙ ap (λ (n : ℕ). suc n) (coding_count bits served us rest h)

pub coding_more : (bits : ℕ) (served : Served) (us : List Use) (cs : List BlockCode) (u : Use)
    (one : BlockCode) → IsCoding bits served us cs → one.block.first ≡ u.variable * bits →
    one.block.bits ≡ bits → code_at served u.variable u.nth ≡ Some one.code →
    IsCoding bits served (us ++ u ∷ []) (cs ++ one ∷ [])
coding_more bits served [] cs u one h first width at =
    let is : one ≡ record { block = record { first = u.variable * bits; bits = bits }; code = one.code } =
    rw (← first, ← width) refl in
    (one.code, [], rw h (ap (λ x. x ∷ []) is), at, refl)
coding_more bits served (v ∷ us) cs u one (c, rest, e, here, h) first width at = (
  c,
  rest ++ one ∷ [],
  ap (λ xs. xs ++ one ∷ []) e,
  here,
  coding_more bits served us rest u one h first width at,
)

-- each use has a code
pub uses_have : (n : ℕ) (e : Event) (entries : List Need) (books : ℕ → Pairs) (served : Served)
    (us : List Use) → AreUsesBelow n e.args entries us → AreCodes n e entries books served →
    AllByRecursion (λ u. code_at served u.variable u.nth ≢ None) us
uses_have n e entries books served [] h k = tt
uses_have n e entries books served (u ∷ us) h k =
    let t = slice_index_or (texts_for u.variable e.args entries) u.nth [] in
    let (c, at, is) = k u.variable u.nth t h.0.0
    (slice_get-get_or (texts_for u.variable e.args entries) u.nth [] h.0.1) in (
      λ none. let no : Some c ≡ None = sym at ∙ none in let never : ⊥ = cc in never,
      uses_have n e entries books served us h.1 k,
    )

-- a code that is there is the one that is read
code_read : (codes : List ℕ) (place c : ℕ) → slice_get codes place ≢ None →
    c ≡ slice_index_or codes place c → slice_get codes place ≡ Some c
code_read [] place c there is = absurd (there refl)
code_read (d ∷ codes) zero c there is = ap (λ (n : ℕ). Some n) (sym is)
code_read (d ∷ codes) (suc place) c there is = code_read codes place c there is

-- the codes of the uses up to this one, whose code is read from its variable's start on
pub coding_step : (bits : ℕ) (served : Served) (us : List Use) (i : ℕ) (u : Use)
    (cs : List BlockCode) (start c : ℕ) → i < length us →
    AllByRecursion (λ v. code_at served v.variable v.nth ≢ None) us →
    start ≡ slice_index_or served.starts (slice_index_or us i u).variable 0 →
    c ≡ slice_index_or served.codes (start + (slice_index_or us i u).nth) c →
    IsCoding bits served (take i us) cs →
    IsCoding bits served (take (i + 1) us)
    (cs ++ record {
      block = record { first = (slice_index_or us i u).variable * bits; bits = bits };
      code = c;
    } ∷ [])
coding_step bits served us i u cs start c l have from read h =
    let one : Use = slice_index_or us i u in
    let part : BlockCode =
    record { block = record { first = one.variable * bits; bits = bits }; code = c } in
    let there : code_at served one.variable one.nth ≢ None =
    All-from_recursion (λ v. code_at served v.variable v.nth ≢ None) us have i u l in
    let place :
    c ≡ slice_index_or served.codes (slice_index_or served.starts one.variable 0 + one.nth) c =
    read ∙ ap (λ (n : ℕ). slice_index_or served.codes (n + one.nth) c) from in
    let at : code_at served one.variable one.nth ≡ Some c =
    code_read served.codes (slice_index_or served.starts one.variable 0 + one.nth) c there
    place in
    subst (λ (vs : List Use). IsCoding bits served vs (cs ++ part ∷ [])) (sym (take_more us i u l))
    (coding_more bits served (take i us) cs one part h refl refl at)

-- and they end within the levels
pub levels_step : (bits : ℕ) (us : List Use) (i : ℕ) (u : Use) (cs : List BlockCode) (c : ℕ) →
    i < length us → AllByRecursion (λ v. v.variable * bits + bits ≤ 65536) us → All HasLevels cs →
    All HasLevels
    (cs ++ record {
      block = record { first = (slice_index_or us i u).variable * bits; bits = bits };
      code = c;
    } ∷ [])
levels_step bits us i u cs c l within h =
    All-push HasLevels cs
    (record {
      block = record { first = (slice_index_or us i u).variable * bits; bits = bits };
      code = c;
    }) h
    (All-from_recursion (λ v. v.variable * bits + bits ≤ 65536) us within i u l)
