-- Expansion keeps truth.
use Rattle.std.proofs.Common.{◌≡◌, ℕ, ◌+◌, ◌-◌, ◌<◌, ◌≤◌, ◌↔◌, List, [], ◌∷◌, length, refl, Option, Some, None, Bool, true, false, inl, inr, ⊎_elim, IsTrue, ◌∙◌, arith}
use Rattle.std.specs.Prelude.{IsSomeAnd, MatchBool, bytes_eq, set, map, if◌then◌else◌, ◌||◌}
use Rattle.std.specs.List.{zip, list_any}
use Rattle.qtl_syntax.specs.declared.formula.Term.{Term}
use Rattle.qtl_syntax.specs.declared.formula.Term.TheVariants as term
use Rattle.qtl_syntax.specs.Tree.{Text, Formula, True, False, Atom, Not, And, Or, Implies, Iff, Prev, Since, TimedSince, Once, TimedOnce, Always, TimedAlways, Interval, Exists, Forall, Item, Pred, Prop}
use Rattle.qtl_truth.specs.declared.event.Event.{Event}
use Rattle.qtl_truth.specs.declared.numbered_atom.AtomTerm.{AtomTerm}
use Rattle.qtl_truth.specs.declared.numbered_atom.AtomTerm.TheVariants as number
use Rattle.qtl_truth.specs.Truth.{Assignment, text_at, with_first, texts_of, Claim, Truth, Says, Holds}
use Rattle.qtl_truth.specs.NumberedAtom.{text_under, texts_under}
use Rattle.qtl_truth.proofs.Past.{same, both, Agree, some_time, each_time, after, never_from}
use Rattle.wellformed.specs.CoreTree.{CoreFormula}
use Rattle.wellformed.specs.CoreTruth.{TrueCore}
use Rattle.wellformed.specs.Expansion.{quantifiers_in, call_quantifiers, quantifiers, Names, meant, numbered_term, expanded, called, expansion, AreBound, Takes, IsClosedIn, AreClosed}
use Rattle.wellformed.proofs.Lists.{get_set, get_set_below, length_set}

-- the number of a variable is below next
abbrev pub IsBelow : ℕ → AtomTerm → Type 0
IsBelow next (number.Variable v) = v < next
IsBelow next (number.Constant t) = Unit {0}

abbrev pub AreBelow : ℕ → List AtomTerm → Type 0
AreBelow next [] = Unit {0}
AreBelow next (t ∷ ts) = IsBelow next t × AreBelow next ts

-- the names in scope have the same texts by name as by number, and the numbers are below next
abbrev pub Agrees : List Text → ℕ → List Text → Assignment → Names → Type 0
Agrees texts next [] [] [] = Unit {0}
Agrees texts next (x ∷ scope) ((y, t) ∷ nu) ((z, c) ∷ names) =
    (y ≡ x) × (z ≡ x) × (text_under texts c ≡ Some t) × IsBelow next c × Agrees texts next scope nu names
Agrees texts next _ _ _ = ⊥

-- a name was found on both sides
record Found (texts : List Text) (next : ℕ) (o : Option Text) (c : AtomTerm) : Type 0 where
  text : Text
  is : o ≡ Some text
  same_text : text_under texts c ≡ Some text
  below : IsBelow next c

or_right : (b c : Bool) → IsTrue (b || c) → b ≡ false → IsTrue c
or_right true c h e = cc
or_right false c h e = h

found_by : (b : Bool) (texts : List Text) (next : ℕ) (t : Text) (c : AtomTerm) (o : Option Text) (d : AtomTerm) → text_under texts c ≡ Some t → IsBelow next c →
    (b ≡ false → Found texts next o d) → Found texts next (if b then Some t else o) (if b then c else d)
found_by true texts next t c o d e l h = record { text = t; is = refl; same_text = e; below = l }
found_by false texts next t c o d e l h = h refl

found : (texts : List Text) (next : ℕ) (x : Text) (scope : List Text) (nu : Assignment) (names : Names) → Agrees texts next scope nu names →
    IsTrue (list_any (λ y. bytes_eq y x) scope) → Found texts next (text_at nu x) (meant names x)
found texts next x [] [] [] a h = absurd (let no : ⊥ = cc in no)
found texts next x (w ∷ scope) ((y, t) ∷ nu) ((z, c) ∷ names) a h =
    rw (a.0, a.1) (found_by (bytes_eq w x) texts next t c (text_at nu x) (meant names x) a.2 a.3
    (λ e. found texts next x scope nu names a.4 (or_right (bytes_eq w x) _ h e)))
found texts next x [] [] (_ ∷ _) a h = absurd a
found texts next x [] (_ ∷ _) [] a h = absurd a
found texts next x [] (_ ∷ _) (_ ∷ _) a h = absurd a
found texts next x (_ ∷ _) [] [] a h = absurd a
found texts next x (_ ∷ _) [] (_ ∷ _) a h = absurd a
found texts next x (_ ∷ _) (_ ∷ _) [] a h = absurd a

-- the texts of terms, by name and by number
record FoundAll (texts : List Text) (next : ℕ) (o : Option (List Text)) (cs : List AtomTerm) : Type 0 where
  args : List Text
  is : o ≡ Some args
  same_texts : texts_under texts cs ≡ Some args
  below : AreBelow next cs

first_of_all : (texts : List Text) (next : ℕ) (o : Option Text) (os : Option (List Text)) (c : AtomTerm) (cs : List AtomTerm) →
    Found texts next o c → FoundAll texts next os cs → FoundAll texts next (with_first o os) (c ∷ cs)
first_of_all texts next o os c cs f fs = record {
  args = f.text ∷ fs.args;
  is = rw (f.is, fs.is) refl;
  same_texts = rw (f.same_text, fs.same_texts) refl;
  below = (f.below, fs.below);
}

found_all : (texts : List Text) (next : ℕ) (scope : List Text) (nu : Assignment) (names : Names) → Agrees texts next scope nu names →
    (ts : List Term) → AreBound scope ts → FoundAll texts next (texts_of nu ts) (map (numbered_term names) ts)
found_all texts next scope nu names a [] b = record { args = []; is = refl; same_texts = refl; below = tt }
found_all texts next scope nu names a (term.Variable x ∷ ts) b =
    first_of_all texts next (text_at nu x) (texts_of nu ts) (meant names x) (map (numbered_term names) ts) (found texts next x scope nu names a b.0) (found_all texts next scope nu names a ts b.1)
found_all texts next scope nu names a (term.Constant t ∷ ts) b =
    first_of_all texts next (Some t) (texts_of nu ts) (number.Constant t) (map (numbered_term names) ts) (record { text = t; is = refl; same_text = refl; below = tt }) (found_all texts next scope nu names a ts b)

-- later numbers change nothing
below_more : (next more : ℕ) (c : AtomTerm) → next ≤ more → IsBelow next c → IsBelow more c
below_more next more (number.Variable v) h l = omega arith
below_more next more (number.Constant t) h l = tt

text_kept : (texts : List Text) (next : ℕ) (t : Text) (c : AtomTerm) → IsBelow next c → text_under (set texts next t) c ≡ text_under texts c
text_kept texts next t (number.Variable v) l = get_set_below texts next v t l
text_kept texts next t (number.Constant s) l = refl

agrees_more : (texts : List Text) (next more : ℕ) → next ≤ more → (scope : List Text) (nu : Assignment) (names : Names) → Agrees texts next scope nu names → Agrees texts more scope nu names
agrees_more texts next more h [] [] [] a = tt
agrees_more texts next more h (w ∷ scope) ((y, t) ∷ nu) ((z, c) ∷ names) a =
    (a.0, a.1, a.2, below_more next more c h a.3, agrees_more texts next more h scope nu names a.4)
agrees_more texts next more h [] [] (_ ∷ _) a = absurd a
agrees_more texts next more h [] (_ ∷ _) [] a = absurd a
agrees_more texts next more h [] (_ ∷ _) (_ ∷ _) a = absurd a
agrees_more texts next more h (_ ∷ _) [] [] a = absurd a
agrees_more texts next more h (_ ∷ _) [] (_ ∷ _) a = absurd a
agrees_more texts next more h (_ ∷ _) (_ ∷ _) [] a = absurd a

agrees_set : (texts : List Text) (next : ℕ) (s : Text) → (scope : List Text) (nu : Assignment) (names : Names) → Agrees texts next scope nu names → Agrees (set texts next s) (next + 1) scope nu names
agrees_set texts next s [] [] [] a = tt
agrees_set texts next s (w ∷ scope) ((y, t) ∷ nu) ((z, c) ∷ names) a =
    (a.0, a.1, text_kept texts next s c a.3 ∙ a.2, below_more next (next + 1) c (omega arith) a.3, agrees_set texts next s scope nu names a.4)
agrees_set texts next s [] [] (_ ∷ _) a = absurd a
agrees_set texts next s [] (_ ∷ _) [] a = absurd a
agrees_set texts next s [] (_ ∷ _) (_ ∷ _) a = absurd a
agrees_set texts next s (_ ∷ _) [] [] a = absurd a
agrees_set texts next s (_ ∷ _) [] (_ ∷ _) a = absurd a
agrees_set texts next s (_ ∷ _) (_ ∷ _) [] a = absurd a

-- under a quantifier
agrees_under : (texts : List Text) (next : ℕ) (s x : Text) → next < length texts → (scope : List Text) (nu : Assignment) (names : Names) →
    Agrees texts next scope nu names → Agrees (set texts next s) (next + 1) (x ∷ scope) ((x, s) ∷ nu) ((x, number.Variable next) ∷ names)
agrees_under texts next s x h scope nu names a =
    (refl, refl, get_set texts next s h, omega arith, agrees_set texts next s scope nu names a)

parts : (o : Option Text) (os : Option (List Text)) (args : List Text) → with_first o os ≡ Some args →
    (a : Text) × (rest : List Text) × (args ≡ a ∷ rest) × (o ≡ Some a) × (os ≡ Some rest)
parts None os args e = absurd (let no : ⊥ = cc in no)
parts (Some a) None args e = absurd (let no : ⊥ = cc in no)
parts (Some a) (Some rest) args e = (a, rest, cc, refl, refl)

-- parameters with the texts of the terms
agrees_call : (texts : List Text) (next : ℕ) (params args : List Text) (terms : List AtomTerm) → texts_under texts terms ≡ Some args → AreBelow next terms →
    length params ≡ length terms → Agrees texts next params (zip params args) (zip params terms)
agrees_call texts next [] args terms e l n = tt
agrees_call texts next (x ∷ params) args [] e l n = absurd (omega arith)
agrees_call texts next (x ∷ params) args (t ∷ ts) e l n =
    let p = parts (text_under texts t) (texts_under texts ts) args e in
    rw p.2 (refl, refl, p.3, l.0, agrees_call texts next params p.1 ts p.4 l.1 (omega arith))

-- what atoms say is what stands for them
unfoldable pub CallsKept : (log : List Event) (says : Text → List Text → Claim) (call : Text → List AtomTerm → ℕ → CoreFormula) (count : Text → ℕ) (takes : Text → ℕ → Type 0) → Type 0
CallsKept log says call count takes =
    (name : Text) (args : List Text) (terms : List AtomTerm) (texts : List Text) (next i : ℕ) → texts_under texts terms ≡ Some args → AreBelow next terms →
    takes name (length terms) → next + count name ≤ length texts → says name args i ↔ TrueCore log texts (call name terms next) i

map_length : {A B : Type 0} (f : A → B) (xs : List A) → length (map f xs) ≡ length xs
map_length f [] = refl
map_length f (x ∷ xs) = let h = map_length f xs in omega arith

module _ (log : List Event) (says : Text → List Text → Claim) (call : Text → List AtomTerm → ℕ → CoreFormula) (count : Text → ℕ) (takes : Text → ℕ → Type 0) (kept : CallsKept log says call count takes) where
  -- an atom or a call
  atom_kept : (name : Text) (ts : List Term) (texts : List Text) (next i : ℕ) (nu : Assignment) (names : Names) →
      FoundAll texts next (texts_of nu ts) (map (numbered_term names) ts) → takes name (length ts) → next + count name ≤ length texts →
      IsSomeAnd (texts_of nu ts) (λ args. says name args i) ↔ TrueCore log texts (call name (map (numbered_term names) ts) next) i
  unfolding CallsKept
  atom_kept name ts texts next i nu names f t h =
      rw f.is (kept name f.args (map (numbered_term names) ts) texts next i f.same_texts f.below (rw (map_length (numbered_term names) ts) t) h)

  pub truth_kept : (f : Formula) (scope : List Text) (nu : Assignment) (names : Names) (texts : List Text) (next i : ℕ) →
      Agrees texts next scope nu names → IsClosedIn takes scope f → next + quantifiers_in count f ≤ length texts →
      Truth says log nu f i ↔ TrueCore log texts (expanded call count names next f) i
  unfolding Agree
  truth_kept True scope nu names texts next i a c h = same
  truth_kept False scope nu names texts next i a c h = same
  truth_kept (Atom name ts) scope nu names texts next i a c h =
      atom_kept name ts texts next i nu names (found_all texts next scope nu names a ts c.0) c.1 h
  truth_kept (Not f) scope nu names texts next i a c h =
      let k = truth_kept f scope nu names texts next i a c h in (λ no x. no (k.1 x), λ no x. no (k.0 x))
  truth_kept (And f g) scope nu names texts next i a c h =
      let m = next + quantifiers_in count f in
      both (truth_kept f scope nu names texts next i a c.0 (omega arith)) (truth_kept g scope nu names texts m i (agrees_more texts next m (omega arith) scope nu names a) c.1 (omega arith))
  truth_kept (Or f g) scope nu names texts next i a c h =
      let m = next + quantifiers_in count f in
      let p = truth_kept f scope nu names texts next i a c.0 (omega arith) in
      let q = truth_kept g scope nu names texts m i (agrees_more texts next m (omega arith) scope nu names a) c.1 (omega arith) in
      (λ x. ⊎_elim (λ y. inl (p.0 y)) (λ y. inr (q.0 y)) x, λ x. ⊎_elim (λ y. inl (p.1 y)) (λ y. inr (q.1 y)) x)
  truth_kept (Implies f g) scope nu names texts next i a c h =
      let m = next + quantifiers_in count f in
      let p = truth_kept f scope nu names texts next i a c.0 (omega arith) in
      let q = truth_kept g scope nu names texts m i (agrees_more texts next m (omega arith) scope nu names a) c.1 (omega arith) in
      (λ x y. q.0 (x (p.1 y)), λ x y. q.1 (x (p.0 y)))
  truth_kept (Iff f g) scope nu names texts next i a c h =
      let m = next + quantifiers_in count f in
      let p = truth_kept f scope nu names texts next i a c.0 (omega arith) in
      let q = truth_kept g scope nu names texts m i (agrees_more texts next m (omega arith) scope nu names a) c.1 (omega arith) in
      (λ x. (λ y. q.0 (x.0 (p.1 y)), λ y. p.0 (x.1 (q.1 y))), λ x. (λ y. q.1 (x.0 (p.0 y)), λ y. p.1 (x.1 (q.0 y))))
  truth_kept (Prev f) scope nu names texts next i a c h = both same (truth_kept f scope nu names texts next (i - 1) a c h)
  truth_kept (Since f g) scope nu names texts next i a c h =
      let m = next + quantifiers_in count f in
      let more = agrees_more texts next m (omega arith) scope nu names a in
      some_time _ _ i (λ j x y. both (truth_kept g scope nu names texts m j more c.1 (omega arith)) (after _ _ i j (λ k z w. truth_kept f scope nu names texts next k a c.0 (omega arith))))
  truth_kept (TimedSince b f g) scope nu names texts next i a c h =
      let m = next + quantifiers_in count f in
      let more = agrees_more texts next m (omega arith) scope nu names a in
      some_time _ _ i (λ j x y. let p = truth_kept g scope nu names texts m j more c.1 (omega arith) in
      let q = after _ _ i j (λ k z w. truth_kept f scope nu names texts next k a c.0 (omega arith)) in
      (λ t. (t.0, p.0 t.1, q.0 t.2), λ t. (t.0, p.1 t.1, q.1 t.2)))
  truth_kept (Once f) scope nu names texts next i a c h = some_time _ _ i (λ j x y. truth_kept f scope nu names texts next j a c h)
  truth_kept (TimedOnce b f) scope nu names texts next i a c h =
      some_time _ _ i (λ j x y. both same (truth_kept f scope nu names texts next j a c h))
  truth_kept (Always f) scope nu names texts next i a c h = each_time _ _ i (λ j x y. truth_kept f scope nu names texts next j a c h)
  truth_kept (TimedAlways b f) scope nu names texts next i a c h =
      each_time _ _ i (λ j x y. let p = truth_kept f scope nu names texts next j a c h in (λ t u. p.0 (t u), λ t u. p.1 (t u)))
  truth_kept (Interval f g) scope nu names texts next i a c h =
      let m = next + quantifiers_in count f in
      let more = agrees_more texts next m (omega arith) scope nu names a in
      some_time _ _ i (λ j x y. both (truth_kept f scope nu names texts next j a c.0 (omega arith)) (never_from _ _ i j x (λ k z w. truth_kept g scope nu names texts m k more c.1 (omega arith))))
  truth_kept (Exists x f) scope nu names texts next i a c h =
      let under = λ (t : Text). truth_kept f (x ∷ scope) ((x, t) ∷ nu) ((x, number.Variable next) ∷ names) (set texts next t) (next + 1) i
      (agrees_under texts next t x (omega arith) scope nu names a) c (omega (arith, length_set texts next t)) in
      (λ (t, k, p). (t, k, (under t).0 p), λ (t, k, p). (t, k, (under t).1 p))
  truth_kept (Forall x f) scope nu names texts next i a c h =
      let under = λ (t : Text). truth_kept f (x ∷ scope) ((x, t) ∷ nu) ((x, number.Variable next) ∷ names) (set texts next t) (next + 1) i
      (agrees_under texts next t x (omega arith) scope nu names a) c (omega (arith, length_set texts next t)) in
      (λ p t k. (under t).0 (p t k), λ p t k. (under t).1 (p t k))

by_call : (b : Bool) (P Q : Type 0) (log : List Event) (texts : List Text) (F G : CoreFormula) (T U : Type 0) (m n next i : ℕ) → MatchBool b T U →
    next + (if b then m else n) ≤ length texts → (T → next + m ≤ length texts → P ↔ TrueCore log texts F i) → (U → next + n ≤ length texts → Q ↔ TrueCore log texts G i) →
    MatchBool b P Q ↔ TrueCore log texts (if b then F else G) i
by_call true P Q log texts F G T U m n next i t h p q = p t h
by_call false P Q log texts F G T U m n next i t h p q = q t h

-- under items
pub calls_kept : (log : List Event) (before : List Item) → AreClosed before → CallsKept log (Says before log) (called before) (call_quantifiers before) (Takes before)
unfolding CallsKept
calls_kept log [] c name args terms texts next i e l t h = rw e same
calls_kept log (Prop p body ∷ before) c name args terms texts next i e l t h = calls_kept log before c name args terms texts next i e l t h
calls_kept log (Pred p params body ∷ before) c name args terms texts next i e l t h =
    by_call (bytes_eq p name) _ _ log texts _ _ _ _ _ _ next i t h (λ n k.
    truth_kept log (Says before log) (called before) (call_quantifiers before) (Takes before) (calls_kept log before c.1) body params (zip params args) (zip params terms) texts next i
    (agrees_call texts next params args terms e l n) c.0 k)
    (λ u k. calls_kept log before c.1 name args terms texts next i e l u k)

-- a formula holds where its expansion does
pub expansion_kept : (log : List Event) (before : List Item) (f : Formula) (scope : List Text) (nu : Assignment) (names : Names) (texts : List Text) (next i : ℕ) →
    AreClosed before → IsClosedIn (Takes before) scope f → Agrees texts next scope nu names → next + quantifiers before f ≤ length texts →
    Holds before log i nu f ↔ TrueCore log texts (expansion before names next f) i
expansion_kept log before f scope nu names texts next i b c a h =
    truth_kept log (Says before log) (called before) (call_quantifiers before) (Takes before) (calls_kept log before b) f scope nu names texts next i a c h
