-- Places and the texts that they give.
use Rattle.std.proofs.Common.{◌≡◌, ℕ, ◌+◌, ◌<◌, ◌≤◌, ◌⊎◌, ◌↔◌, List, [], ◌∷◌, ◌++◌, length, length-append, suc, refl, Option, Some, None, Bool, true, false, IsTrue, inl, inr, ap, sym, ◌∙◌, arith, get_or, drop, drop-cons, add-one}
use Rattle.std.proofs.lemmas.Option.{slice_get-get_or}
use Rattle.std.specs.Prelude.{slice_get, IsSomeAnd, nat_eq, if◌then◌else◌}
use Rattle.std.specs.List.{list_any}
use Rattle.qtl_syntax.specs.Tree.{Text}
use Rattle.qtl_truth.specs.declared.numbered_atom.AtomTerm.{AtomTerm}
use Rattle.qtl_truth.specs.declared.numbered_atom.AtomTerm.TheVariants.{Variable, Constant}
use Rattle.qtl_truth.specs.declared.matching.Place.{Place}
use Rattle.qtl_truth.specs.Truth.{with_first, event_at, Happens}
use Rattle.qtl_truth.proofs.Given.{can_be_given}
use Rattle.std.proofs.lemmas.List.{drop_all}
use Rattle.qtl_truth.specs.declared.event.Event.{Event}
use Rattle.qtl_truth.specs.declared.numbered_atom.Atom.{Atom}
use Rattle.qtl_truth.specs.NumberedAtom.{text_under, texts_under, IsAtomOf, AtomHolds}
use Rattle.qtl_truth.specs.Matching.{IsGiven, ArgsBelow, arg_at, place_variables, with_term, with_terms, Binds, Adds, IsTaken}
use Rattle.std.proofs.lemmas.Bool.Decides.{nat_tests}

-- a test of a number in front
front_some : (b : Bool) (m k : ℕ) (o : Option ℕ) → (if b then Some m else o) ≡ Some k → ((b ≡ true) × (m ≡ k)) ⊎ ((b ≡ false) × (o ≡ Some k))
front_some true m k o e = inl (refl, cc)
front_some false m k o e = inr (refl, e)

front_none : (b : Bool) (m : ℕ) (o : Option ℕ) → (if b then Some m else o) ≡ None → (b ≡ false) × (o ≡ None)
front_none true m o e = absurd (let no : ⊥ = cc in no)
front_none false m o e = (refl, e)

nat_eq_true : (a b : ℕ) → nat_eq a b ≡ true → a ≡ b
nat_eq_true a b e = grind (arith, nat_tests)

-- a bound variable has a place, which gives its text
pub record HasPlace (ps : List Place) (v a : ℕ) : Type 0 where
  pub gives : (nu args : List Text) → IsGiven nu args ps → slice_get nu v ≡ slice_get args a
  pub within : (n : ℕ) → ArgsBelow n ps → a < n
  pub seen : list_any (λ w. nat_eq w v) (place_variables ps) ≡ true

first_or : (p : Place) (ps : List Place) (v a : ℕ) → (arg_at ps v ≡ Some a → HasPlace ps v a) →
    ((nat_eq p.variable v ≡ true) × (p.arg ≡ a)) ⊎ ((nat_eq p.variable v ≡ false) × (arg_at ps v ≡ Some a)) → HasPlace (p ∷ ps) v a
first_or p ps v a h (inl (is, e)) =
    let same = nat_eq_true p.variable v is in
    record {
      gives = λ nu args g. rw (← same, ← e) g.0;
      within = λ n w. rw (← e) w.0;
      seen = rw is refl;
    }
first_or p ps v a h (inr (is, e)) =
    let k = h e in
    record {
      gives = λ nu args g. k.gives nu args g.1;
      within = λ n w. k.within n w.1;
      seen = rw is k.seen;
    }

pub has_place : (ps : List Place) (v a : ℕ) → arg_at ps v ≡ Some a → HasPlace ps v a
has_place [] v a e = absurd (let no : ⊥ = cc in no)
has_place (p ∷ ps) v a e = first_or p ps v a (λ h. has_place ps v a h) (front_some (nat_eq p.variable v) p.arg a (arg_at ps v) e)

pub has_none : (ps : List Place) (v : ℕ) → arg_at ps v ≡ None → list_any (λ w. nat_eq w v) (place_variables ps) ≡ false
has_none [] v e = refl
has_none (p ∷ ps) v e =
    let f = front_none (nat_eq p.variable v) p.arg (arg_at ps v) e in
    rw f.0 (has_none ps v f.1)

-- one place more
pub given_more : (nu args : List Text) (ps : List Place) (p : Place) → IsGiven nu args (ps ++ p ∷ []) ↔ (IsGiven nu args ps × (slice_get nu p.variable ≡ slice_get args p.arg))
given_more nu args [] p = (λ g. (tt, g.0), λ g. (g.1, tt))
given_more nu args (q ∷ ps) p =
    let h = given_more nu args ps p in
    (λ g. let k = h.0 g.1 in ((g.0, k.0), k.1), λ g. (g.0.0, h.1 (g.0.1, g.1)))

pub variables_more : (ps : List Place) (p : Place) → place_variables (ps ++ p ∷ []) ≡ place_variables ps ++ p.variable ∷ []
variables_more [] p = refl
variables_more (q ∷ ps) p = ap (λ vs. q.variable ∷ vs) (variables_more ps p)

pub below_more : (n : ℕ) (ps : List Place) (p : Place) → ArgsBelow n ps → p.arg < n → ArgsBelow n (ps ++ p ∷ [])
below_more n [] p h l = (l, tt)
below_more n (q ∷ ps) p h l = (h.0, below_more n ps p h.1 l)

pub length_variables : (ps : List Place) → length (place_variables ps) ≡ length ps
length_variables [] = refl
length_variables (p ∷ ps) = let h = length_variables ps in omega arith

-- the three cases of a term
some_same : (x y : Text) → Some x ≡ Some y → x ≡ y
some_same x y e = cc

pub taken_constant : (args : List Text) (k : ℕ) (t x : Text) (old : List Place) (b : Bool) → ArgsBelow (length args) old → slice_get args k ≡ Some x →
    (IsTrue b ↔ (t ≡ x)) → IsTaken args k (Constant t) old old b
taken_constant args k t x old true w e h = record {
  each = refl;
  within = w;
  exactly = λ nu. (λ g. g.0, λ g. (g, ap Some (h.0 refl) ∙ sym e));
}
taken_constant args k t x old false w e h = λ nu g f. let no : false ≡ true = h.1 (some_same t x (f ∙ e)) in absurd (let never : ⊥ = cc in never)

pub taken_bound : (args : List Text) (k v a : ℕ) (x y : Text) (old : List Place) (b : Bool) → ArgsBelow (length args) old → arg_at old v ≡ Some a →
    slice_get args k ≡ Some x → slice_get args a ≡ Some y → (IsTrue b ↔ (y ≡ x)) → IsTaken args k (Variable v) old old b
taken_bound args k v a x y old true w p e f h =
    let place = has_place old v a p in
    record {
      each = rw place.seen refl;
      within = w;
      exactly = λ nu. (λ g. g.0, λ g. (g, place.gives nu args g ∙ (f ∙ (ap Some (h.0 refl) ∙ sym e))));
    }
taken_bound args k v a x y old false w p e f h = λ nu g is.
    let place = has_place old v a p in
    let same : Some y ≡ Some x = sym f ∙ (sym (place.gives nu args g) ∙ (is ∙ e)) in
    let no : false ≡ true = h.1 (some_same y x same) in absurd (let never : ⊥ = cc in never)

pub taken_new : (args : List Text) (k v : ℕ) (old : List Place) → ArgsBelow (length args) old → k < length args → arg_at old v ≡ None →
    IsTaken args k (Variable v) old (old ++ record { variable = v; arg = k } ∷ []) true
taken_new args k v old w l p =
    let none = has_none old v p in
    record {
      each = rw none (variables_more old (record { variable = v; arg = k }));
      within = below_more (length args) old (record { variable = v; arg = k }) w l;
      exactly = λ nu. let m = given_more nu args old (record { variable = v; arg = k }) in (λ g. m.1 g, λ g. m.0 g);
    }

-- the variables only grow
longer : (b : Bool) (vs : List ℕ) (v : ℕ) (ts : List AtomTerm) → length vs ≤ length (with_terms vs ts) → length (vs ++ v ∷ []) ≤ length (with_terms (vs ++ v ∷ []) ts) →
    length vs ≤ length (with_terms (if b then vs else vs ++ v ∷ []) ts)
longer true vs v ts h k = h
longer false vs v ts h k = omega (arith, length-append vs (v ∷ []))

pub grows : (vs : List ℕ) (ts : List AtomTerm) → length vs ≤ length (with_terms vs ts)
grows vs [] = omega arith
grows vs (Constant t ∷ ts) = grows vs ts
grows vs (Variable v ∷ ts) = longer (list_any (λ w. nat_eq w v) vs) vs v ts (grows vs ts) (grows (vs ++ v ∷ []) ts)

parts : (o : Option Text) (os : Option (List Text)) (x : Text) (xs : List Text) → with_first o os ≡ Some (x ∷ xs) → (o ≡ Some x) × (os ≡ Some xs)
parts None os x xs e = absurd (let no : ⊥ = cc in no)
parts (Some t) None x xs e = absurd (let no : ⊥ = cc in no)
parts (Some t) (Some ts) x xs e = (cc, cc)

-- the terms go on by one
pub go_on : (W : Type 0) (nu args : List Text) (old new : List Place) (t : AtomTerm) (ts : List AtomTerm) (a : Text) (rest : List Text) (o : Option Text) → o ≡ Some a →
    W ↔ (IsGiven nu args old × (texts_under nu (t ∷ ts) ≡ Some (a ∷ rest))) → (IsGiven nu args old × (text_under nu t ≡ o)) ↔ IsGiven nu args new →
    W ↔ (IsGiven nu args new × (texts_under nu ts ≡ Some rest))
go_on W nu args old new t ts a rest o is h k = (
  λ w. let g = h.0 w in
      let p = parts (text_under nu t) (texts_under nu ts) a rest g.1 in
      (k.0 (g.0, p.0 ∙ sym is), p.1),
  λ g. let q = k.1 g.0 in
      let e : text_under nu t ≡ Some a = q.1 ∙ is in
      h.1 (q.0, rw (e, g.1) refl),
)

pub go_wrong : (W : Type 0) (nu args : List Text) (old : List Place) (t : AtomTerm) (ts : List AtomTerm) (a : Text) (rest : List Text) (o : Option Text) → o ≡ Some a →
    W ↔ (IsGiven nu args old × (texts_under nu (t ∷ ts) ≡ Some (a ∷ rest))) → (IsGiven nu args old → ¬ (text_under nu t ≡ o)) → ¬ W
go_wrong W nu args old t ts a rest o is h k = λ w. let g = h.0 w in
    let p = parts (text_under nu t) (texts_under nu ts) a rest g.1 in
    k g.0 (p.0 ∙ sym is)

no_texts : (o : Option Text) (os : Option (List Text)) → with_first o os ≡ Some [] → ⊥
no_texts None os e = cc
no_texts (Some t) None e = cc
no_texts (Some t) (Some ts) e = cc

-- there are as many texts as terms
pub texts_length : (nu : List Text) (ts : List AtomTerm) (xs : List Text) → texts_under nu ts ≡ Some xs → length ts ≡ length xs
texts_length nu [] xs e = let same : [] ≡ xs = cc in ap length same
texts_length nu (t ∷ ts) [] e = absurd (no_texts (text_under nu t) (texts_under nu ts) e)
texts_length nu (t ∷ ts) (x ∷ xs) e =
    let p = parts (text_under nu t) (texts_under nu ts) x xs e in
    let h = texts_length nu ts xs p.1 in omega arith

-- what is left from position k on
pub drop_at : {A : Type 0} (xs : List A) (k : ℕ) (x : A) → k < length xs → x ≡ get_or xs k x → drop k xs ≡ x ∷ drop (k + 1) xs
drop_at xs k x l e = let h = drop-cons xs k x l in rw (add-one, h) (ap (λ y. y ∷ drop (suc k) xs) (sym e))

drop_text : (xs : List Text) (k : ℕ) → k < length xs → drop k xs ≡ get_or xs k [] ∷ drop (k + 1) xs
drop_text xs k l = let h = drop-cons xs k [] l in rw (add-one, h) refl

pub going : (W : Type 0) (nu args : List Text) (old new : List Place) (terms : List AtomTerm) (k : ℕ) (t : AtomTerm) → k < length terms → length args ≡ length terms →
    t ≡ get_or terms k t → W ↔ (IsGiven nu args old × (texts_under nu (drop k terms) ≡ Some (drop k args))) → Adds args k t old new →
    W ↔ (IsGiven nu args new × (texts_under nu (drop (k + 1) terms) ≡ Some (drop (k + 1) args)))
going W nu args old new terms k t l n is h a =
    let m : k < length args = omega arith in
    let e = slice_get-get_or args k [] m in
    let inv = rw (drop_at terms k t l is, drop_text args k m) at h in
    go_on W nu args old new t (drop (k + 1) terms) (get_or args k []) (drop (k + 1) args) (slice_get args k) e inv (a.exactly nu)

pub stopping : (W : Type 0) (nu args : List Text) (old : List Place) (terms : List AtomTerm) (k : ℕ) (t : AtomTerm) → k < length terms → length args ≡ length terms →
    t ≡ get_or terms k t → W ↔ (IsGiven nu args old × (texts_under nu (drop k terms) ≡ Some (drop k args))) → (IsGiven nu args old → ¬ (text_under nu t ≡ slice_get args k)) → ¬ W
stopping W nu args old terms k t l n is h a =
    let m : k < length args = omega arith in
    let e = slice_get-get_or args k [] m in
    let inv = rw (drop_at terms k t l is, drop_text args k m) at h in
    go_wrong W nu args old t (drop (k + 1) terms) (get_or args k []) (drop (k + 1) args) (slice_get args k) e inv a

pub next_variables : (old : List ℕ) (all : List ℕ) (terms : List AtomTerm) (k : ℕ) (t : AtomTerm) → k < length terms → t ≡ get_or terms k t →
    with_terms old (drop k terms) ≡ all → with_terms (with_term old t) (drop (k + 1) terms) ≡ all
next_variables old all terms k t l is h = rw (drop_at terms k t l is) at h

-- there is room for one more while the atom has at most eight variables
pub has_room : (old all : List ℕ) (terms : List AtomTerm) (k : ℕ) (t : AtomTerm) → k < length terms → t ≡ get_or terms k t →
    with_terms old (drop k terms) ≡ all → length (with_term old t) ≤ length all
has_room old all terms k t l is h =
    let e = next_variables old all terms k t l is h in
    rw (← e) (grows (with_term old t) (drop (k + 1) terms))

-- an atom of the event's name
some_is : (o : Option (List Text)) (N : Type 0) (xs : List Text) → IsSomeAnd o (λ ys. N × (xs ≡ ys)) → N × (o ≡ Some xs)
some_is None N xs h = absurd h
some_is (Some ys) N xs h = (h.0, ap Some (sym h.1))

is_some : (o : Option (List Text)) (N : Type 0) (xs : List Text) → N → o ≡ Some xs → IsSomeAnd o (λ ys. N × (xs ≡ ys))
is_some None N xs n e = absurd (let no : ⊥ = cc in no)
is_some (Some ys) N xs n e = (n, let same : xs ≡ ys = cc in same)

pub atom_parts : (nu : List Text) (a : Atom) (e : Event) → IsAtomOf nu a e → (e.name ≡ a.name) × (texts_under nu a.terms ≡ Some e.args)
atom_parts nu a e h = some_is (texts_under nu a.terms) (e.name ≡ a.name) e.args h

pub atom_of : (nu : List Text) (a : Atom) (e : Event) → e.name ≡ a.name → texts_under nu a.terms ≡ Some e.args → IsAtomOf nu a e
atom_of nu a e n h = is_some (texts_under nu a.terms) (e.name ≡ a.name) e.args n h

pub no_atom : (nu : List Text) (a : Atom) (e : Event) (same : Bool) → (IsTrue same ↔ (e.name ≡ a.name)) →
    (same ≡ false) ⊎ ((same ≡ true) × (length e.args ≡ length a.terms → ⊥)) → IsAtomOf nu a e → ⊥
no_atom nu a e same h (inl f) m = let p = atom_parts nu a e m in let t : same ≡ true = h.1 p.0 in cc
no_atom nu a e same h (inr q) m = let p = atom_parts nu a e m in q.1 (sym (texts_length nu a.terms e.args p.1))

pub new_length : (old : List Place) (v : ℕ) → arg_at old v ≡ None → length (with_term (place_variables old) (Variable v)) ≡ length old + 1
new_length old v e = let none = has_none old v e in
    rw none (omega (arith, length-append (place_variables old) (v ∷ []), length_variables old))

-- all terms were taken
pub all_taken : (a : Atom) (e : Event) (ps : List Place) (k : ℕ) → length a.terms ≤ k → length e.args ≡ length a.terms → e.name ≡ a.name →
    with_terms (place_variables ps) (drop k a.terms) ≡ with_terms [] a.terms → ArgsBelow (length e.args) ps →
    ((nu : List Text) → (texts_under nu a.terms ≡ Some e.args) ↔ (IsGiven nu e.args ps × (texts_under nu (drop k a.terms) ≡ Some (drop k e.args)))) → Binds a e ps
all_taken a e ps k l n same each within exactly =
    let none : drop k a.terms ≡ [] = drop_all k a.terms l in
    let no_args : drop k e.args ≡ [] = drop_all k e.args (omega arith) in
    let variables : place_variables ps ≡ with_terms [] a.terms = rw none at each in
    let given = can_be_given e.args ps a.terms variables within in
    let back = λ (nu : List Text) (g : IsGiven nu e.args ps). (exactly nu).1 (g, rw (none, no_args) refl) in
    record {
      each = variables;
      within = within;
      exactly = λ nu. (λ m. ((exactly nu).0 (atom_parts nu a e m).1).0, λ g. atom_of nu a e same (back nu g));
      some = (given.0, atom_of given.0 a e same (back given.0 given.1));
    }

at_texts : (o : Option (List Text)) (log : List Event) (name : Text) (i : ℕ) (e : Event) → event_at log i ≡ Some e →
    IsSomeAnd o (λ args. Happens log name args i) ↔ IsSomeAnd o (λ args. (e.name ≡ name) × (e.args ≡ args))
at_texts None log name i e h = (λ x. x, λ x. x)
at_texts (Some args) log name i e h = rw h (λ x. x, λ x. x)

-- at position i of a log, an atom is true as at its event
pub atom_at : (log : List Event) (nu : List Text) (a : Atom) (i : ℕ) (e : Event) → event_at log i ≡ Some e → AtomHolds log nu a i ↔ IsAtomOf nu a e
atom_at log nu a i e h = at_texts (texts_under nu a.terms) log a.name i e h
