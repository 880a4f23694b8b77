-- The tree of an atom has levels of the atom's variables alone, and reads alike.
use Rattle.std.proofs.Common.{◌≡◌, ℕ, zero, suc, ◌+◌, ◌-◌, ◌/◌, ◌%◌, ◌^◌, ◌<◌, inl, inr, ⊎_elim, refl, sym, ap, ◌∙◌, subst, arith, List, [], ◌∷◌, ◌++◌, Bool, true, false, ◌&&◌, ◌||◌, IsTrue, Option, Some, None}
use Rattle.std.specs.Prelude.{nat_eq, if◌then◌else◌, bytes_eq}
use Rattle.std.specs.List.{AllByRecursion, flat_map}
use Rattle.std.specs.Option.{option_and_then}
use Rattle.std.proofs.lemmas.Bool.{cases_eq}
use Rattle.std.proofs.lemmas.Bool.Decides.{eqb_tells}
use Rattle.qtl_syntax.specs.Tree.{Text}
use Rattle.qtl_truth.specs.declared.numbered_atom.Atom.{Atom}
use Rattle.qtl_truth.specs.declared.numbered_atom.AtomTerm.{AtomTerm}
use Rattle.qtl_truth.specs.declared.numbered_atom.AtomTerm.TheVariants.{Variable, Constant}
use Rattle.wellformed.specs.CoreTree as core
use Rattle.subformulas.specs.Facts.{Fact, facts_of}
use Rattle.subformulas.specs.Free.{stands_in}
use Rattle.subformulas.specs.Needs.{given, fits}
use Rattle.value_codes.specs.Pairs.{Pairs, code_of, value_of}
use Rattle.value_codes.proofs.Lookups.{Tells, texts_tell}
use Rattle.node_tree.specs.Tree.{Tree, Zero, join}
use Rattle.node_tree.specs.Levels.{AllLevels, IsInBlock}
use Rattle.bdd_ops.specs.declared.literals.Literal.{Literal}
use Rattle.bdd_ops.specs.Cube.{cube_tree, all_hold}
use Rattle.bdd_ops.specs.Codes.{literal_at, code_literals}
use Rattle.bdd_ops.proofs.Cubes.{cube-value, cube-ordered}
use Rattle.operation_rows.specs.Kinds.{atom_update}
use Rattle.timed_bits.specs.Ages.{spelled}
use Rattle.monitor_model.specs.Setting.{Setting, first_of}
use Rattle.monitor_model.specs.Rows.{Frame, block_literals, given_code, fact_literals, fact_cube, cubes}
use Rattle.monitor_model.specs.Laws.{HaveCodesBelow}
use Rattle.monitor_model.proofs.Spelling.Bits.{spelled_same, apart}
use Rattle.monitor_model.proofs.Spelling.Blocks.{all_hold-append, code_holds}
use Rattle.monitor_model.proofs.Drawing.Atoms.{cube_reduced, fact_ascends}
use Rattle.monitor_model.proofs.Drawing.Connectives.{alike}
use Rattle.monitor_model.proofs.Shapes.Free.{IsLevelOf}
use Rattle.monitor_model.proofs.Shapes.Kept.{Keeps, keeps_zero, keeps_union}
use Rattle.monitor_model.proofs.Shapes.Levels.{join_levels}
use Rattle.monitor_model.proofs.Shapes.Unpaired.{IsUnpaired}

-- ---- what an atom's fact gives

-- a variable that is given a text stands among the terms
given_stands : (ts : List AtomTerm) (args : List Text) (x : ℕ) (t : Text) →
    given ts args x ≡ Some t → IsTrue (stands_in x ts)
given_stands [] args x t e = absurd (let no : ⊥ = cc in no)
given_stands (u ∷ ts) [] x t e = absurd (let no : ⊥ = cc in no)
given_stands (Variable y ∷ ts) (r ∷ args) x t e =
    by_test (nat_eq x y) (λ k. given_stands ts args x t k) e
  where
    by_test : (b : Bool) → (given ts args x ≡ Some t → IsTrue (stands_in x ts)) →
        (if b then Some r else given ts args x) ≡ Some t → (b || stands_in x ts) ≡ true
    by_test true f k = refl
    by_test false f k = f k
given_stands (Constant c ∷ ts) (r ∷ args) x t e = given_stands ts args x t e

-- a code that is given is one of a text that the fact gives
given_coded : (books : ℕ → Pairs) (a : Atom) (q : Fact) (x c : ℕ) →
    given_code books a q x ≡ Some c →
    (t : Text) × (given a.terms q.args x ≡ Some t) × (code_of (books x) t ≡ Some c)
given_coded books a q x c e = by_given (given a.terms q.args x) refl e
  where
    by_given : (o : Option Text) → given a.terms q.args x ≡ o →
        option_and_then (code_of (books x)) o ≡ Some c →
        (t : Text) × (given a.terms q.args x ≡ Some t) × (code_of (books x) t ≡ Some c)
    by_given None g k = absurd (let no : ⊥ = cc in no)
    by_given (Some t) g k = (t, g, k)

-- a code that is given has a pair
pub coded_read : (book : Pairs) (t : Text) (c : ℕ) → code_of book t ≡ Some c →
    value_of book c ≡ None → ⊥
coded_read [] t c e n = cc
coded_read (p ∷ book) t c e n =
    by_head (texts_tell p.0 t) (eqb_tells p.1 c) (coded_read book t c) e n
  where
    by_head : Tells (bytes_eq p.0 t) (p.0 ≡ t) → Tells (nat_eq p.1 c) (p.1 ≡ c) →
        (code_of book t ≡ Some c → value_of book c ≡ None → ⊥) →
        (if bytes_eq p.0 t then Some p.1 else code_of book t) ≡ Some c →
        (if nat_eq p.1 c then Some p.0 else value_of book c) ≡ None → ⊥
    by_head q (inl r) f k m =
        let y : (if true then Some p.0 else value_of book c) ≡ None = rw r.0 at m in
        let z : Some p.0 ≡ None = y in
        cc
    by_head (inl q) (inr r) f k m =
        let y : (if true then Some p.1 else code_of book t) ≡ Some c = rw q.0 at k in
        r.1 (let z : Some p.1 ≡ Some c = y in cc)
    by_head (inr q) (inr r) f k m =
        f (let y : (if false then Some p.1 else code_of book t) ≡ Some c = rw q.0 at k in y)
        (let z : (if false then Some p.0 else value_of book c) ≡ None = rw r.0 at m in z)

-- ---- levels of literals

each_append : (P : ℕ → Type 0) (xs ys : List Literal) → AllByRecursion (λ l. P l.level) xs →
    AllByRecursion (λ l. P l.level) ys → AllByRecursion (λ l. P l.level) (xs ++ ys)
each_append P [] ys h k = k
each_append P (l ∷ xs) ys h k = (h.0, each_append P xs ys h.1 k)

code_levels : (P : ℕ → Type 0) (first n c : ℕ) → ((l : ℕ) → IsInBlock first n l → P l) →
    AllByRecursion (λ l. P l.level) (code_literals first n c)
code_levels P first zero c h = tt
code_levels P first (suc n) c h =
    each_append P (code_literals first n (c / 2)) (literal_at (first + n) (nat_eq (c % 2) 1) ∷ [])
    (code_levels P first n (c / 2) (λ l (p, q). h l (p, omega arith)))
    (h (first + n) (omega arith, omega arith), tt)

cube_levels : (P : ℕ → Type 0) (ls : List Literal) → AllByRecursion (λ l. P l.level) ls →
    AllLevels P (cube_tree ls)
cube_levels P [] h = tt
cube_levels P (l ∷ ls) h = by_bit l.bit (cube_levels P ls h.1)
  where
    by_bit : (b : Bool) → AllLevels P (cube_tree ls) →
        AllLevels P
        (if b then join l.level Zero (cube_tree ls) else join l.level (cube_tree ls) Zero)
    by_bit true k = join_levels P l.level Zero (cube_tree ls) h.0 tt k
    by_bit false k = join_levels P l.level (cube_tree ls) Zero h.0 k tt

-- the tree has levels of the atom's variables, and reads alike at a code without a pair
abbrev Own : Frame → Atom → (x c : ℕ) → Tree → Type 0
Own fr a x c t = Keeps (IsLevelOf fr.setting (core.Atom a)) (IsUnpaired fr.setting fr.books x c) t

module _ (fr : Frame) (a : Atom) (q : Fact) where
  abbrev s : Setting
  s = fr.setting

  own_levels : (n : ℕ) → AllByRecursion (λ l. IsLevelOf s (core.Atom a) l.level)
      (fact_literals fr a q n)
  own_levels zero = tt
  own_levels (suc n) =
      each_append (IsLevelOf s (core.Atom a)) (fact_literals fr a q n)
      (block_literals s n (given_code fr.books a q n)) (own_levels n)
      (by_code (given_code fr.books a q n) refl)
    where
      by_code : (o : Option ℕ) → given_code fr.books a q n ≡ o →
          AllByRecursion (λ l. IsLevelOf s (core.Atom a) l.level) (block_literals s n o)
      by_code None e = tt
      by_code (Some c) e =
          let (t, g, k) = given_coded fr.books a q n c e in
          code_levels (IsLevelOf s (core.Atom a)) (first_of s n) s.bits c
          (λ l p. (n, given_stands a.terms q.args n t g, p))

  module _ (few : HaveCodesBelow fr.setting fr.books) (x c : ℕ) where
    -- the literals of a code with a pair hold at both bits or at none
    code_same : (y d : ℕ) (t : Text) → code_of (fr.books y) t ≡ Some d → (p r : List Bool) →
        IsUnpaired fr.setting fr.books x c p r →
        all_hold (code_literals (first_of s y) s.bits d) p ≡
        all_hold (code_literals (first_of s y) s.bits d) r
    code_same y d t k p r u =
        let small : d < 2 ^ s.bits = (let f = few y t d k in omega arith) in
        let at_p = code_holds (first_of s y) s.bits d p small in
        let at_r = code_holds (first_of s y) s.bits d r small in
        ⊎_elim
        (λ e.
        let l = few y t d k in
        let ones : spelled r (first_of s y) s.bits ≡ 2 ^ s.bits - 1 =
        subst (λ (z : ℕ). spelled r (first_of s z) s.bits ≡ 2 ^ s.bits - 1) (sym e) u.ones in
        let here : spelled p (first_of s y) s.bits ≡ c =
        subst (λ (z : ℕ). spelled p (first_of s z) s.bits ≡ c) (sym e) u.spells in
        let free : value_of (fr.books y) c ≡ None =
        subst (λ (z : ℕ). value_of (fr.books z) c ≡ None) (sym e) u.no_pair in
        alike _ _ (
          λ h. absurd (coded_read (fr.books y) t d k
              (subst (λ (z : ℕ). value_of (fr.books y) z ≡ None) (sym here ∙ at_p.0 h) free)),
          λ h. absurd (let z = at_r.0 h in omega arith),
        ))
        (λ n.
        let same : spelled r (first_of s y) s.bits ≡ spelled p (first_of s y) s.bits =
        spelled_same p r (first_of s y) s.bits
        (λ l f g. u.outside l (apart x y s.bits l n f g)) in
        alike _ _ (λ h. at_r.1 (same ∙ at_p.0 h), λ h. at_p.1 (sym same ∙ at_r.0 h)))
        (cases_eq y x)

    literals_same : (n : ℕ) (p r : List Bool) → IsUnpaired fr.setting fr.books x c p r →
        all_hold (fact_literals fr a q n) p ≡ all_hold (fact_literals fr a q n) r
    literals_same zero p r u = refl
    literals_same (suc n) p r u =
        let ls = fact_literals fr a q n in
        let ms = block_literals s n (given_code fr.books a q n) in
        all_hold-append ls ms p ∙
        ap (λ b. b && all_hold ms p) (literals_same n p r u) ∙
        ap (λ b. all_hold ls r && b) (by_code (given_code fr.books a q n) refl) ∙
        sym (all_hold-append ls ms r)
      where
        by_code : (o : Option ℕ) → given_code fr.books a q n ≡ o →
            all_hold (block_literals s n o) p ≡ all_hold (block_literals s n o) r
        by_code None e = refl
        by_code (Some d) e =
            let (t, g, k) = given_coded fr.books a q n d e in code_same n d t k p r u

    cube_keeps : (n : ℕ) → Own fr a x c (cube_tree (fact_literals fr a q n))
    cube_keeps n = record {
      ordered = cube-ordered (fact_literals fr a q n) 0 (fact_ascends fr a q n);
      reduced = cube_reduced (fact_literals fr a q n);
      levels = cube_levels (IsLevelOf s (core.Atom a)) (fact_literals fr a q n) (own_levels n);
      same = λ p r u.
          cube-value (fact_literals fr a q n) p ∙ literals_same n p r u ∙
          sym (cube-value (fact_literals fr a q n) r);
    }

    cube_of_fact : AllByRecursion (Own fr a x c) (fact_cube fr a q)
    cube_of_fact = by_test (fits a q)
      where
        by_test : (b : Bool) →
            AllByRecursion (Own fr a x c)
            (if b then cube_tree (fact_literals fr a q s.variables) ∷ [] else [])
        by_test true = (cube_keeps s.variables, tt)
        by_test false = tt

module _ (fr : Frame) (a : Atom) (few : HaveCodesBelow fr.setting fr.books) (x c : ℕ) where
  both_lists : (ts us : List Tree) → AllByRecursion (Own fr a x c) ts →
      AllByRecursion (Own fr a x c) us → AllByRecursion (Own fr a x c) (ts ++ us)
  both_lists [] us h k = k
  both_lists (t ∷ ts) us h k = (h.0, both_lists ts us h.1 k)

  each_fact : (qs : List Fact) → AllByRecursion (Own fr a x c) (flat_map (fact_cube fr a) qs)
  each_fact [] = tt
  each_fact (q ∷ qs) =
      both_lists (fact_cube fr a q) (flat_map (fact_cube fr a) qs) (cube_of_fact fr a q few x c)
      (each_fact qs)

  -- what an atom makes has such levels and reads alike
  pub atom_keeps : Keeps (IsLevelOf fr.setting (core.Atom a)) (IsUnpaired fr.setting fr.books x c)
      (atom_update (cubes fr a)).now
  atom_keeps = by_cubes (cubes fr a) (each_fact (facts_of fr.event))
    where
      by_cubes : (ts : List Tree) → AllByRecursion (Own fr a x c) ts →
          Own fr a x c (atom_update ts).now
      by_cubes [] h = keeps_zero _ _
      by_cubes (t ∷ ts) h = keeps_union _ _ t ts h.0 h.1
