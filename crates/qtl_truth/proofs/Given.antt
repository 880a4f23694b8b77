-- A binding can be given: some assignment gives each variable the text of its argument.
use Rattle.std.proofs.Common.{◌≡◌, ℕ, ◌+◌, ◌<◌, List, [], ◌∷◌, ◌++◌, length, zero, suc, refl, Some, None, Bool, true, false, arith, ◌∙◌, sym}
use Rattle.std.specs.Prelude.{slice_get, nat_eq, if◌then◌else◌, ◌||◌}
use Rattle.std.specs.List.{list_any}
use Rattle.std.proofs.lemmas.Bool.Decides.{nat_tests}
use Rattle.qtl_syntax.specs.Tree.{Text}
use Rattle.qtl_truth.specs.declared.numbered_atom.AtomTerm.{AtomTerm}
use Rattle.qtl_truth.specs.declared.numbered_atom.AtomTerm.TheVariants.{Variable, Constant}
use Rattle.qtl_truth.specs.declared.matching.Place.{Place}
use Rattle.qtl_truth.specs.Matching.{IsGiven, ArgsBelow, place_variables, with_term, with_terms}

-- the text at a number, with empty texts before it where there are none
put : List Text → ℕ → Text → List Text
put [] zero t = t ∷ []
put [] (suc v) t = [] ∷ put [] v t
put (x ∷ xs) zero t = t ∷ xs
put (x ∷ xs) (suc v) t = x ∷ put xs v t

get_put : (xs : List Text) (v : ℕ) (t : Text) → slice_get (put xs v t) v ≡ Some t
unfolding put
get_put [] zero t = refl
get_put [] (suc v) t = get_put [] v t
get_put (x ∷ xs) zero t = refl
get_put (x ∷ xs) (suc v) t = get_put xs v t

get_other : (xs : List Text) (v w : ℕ) (t : Text) (u : Text) → (v ≡ w → ⊥) → slice_get xs w ≡ Some u → slice_get (put xs v t) w ≡ Some u
unfolding put
get_other [] v w t u n e = absurd (let no : ⊥ = cc in no)
get_other (x ∷ xs) zero zero t u n e = absurd (n refl)
get_other (x ∷ xs) zero (suc w) t u n e = e
get_other (x ∷ xs) (suc v) zero t u n e = e
get_other (x ∷ xs) (suc v) (suc w) t u n e = get_other xs v w t u (λ h. n (omega arith)) e

-- no number stands twice
AreOnce : List ℕ → Type 0
AreOnce [] = Unit {0}
AreOnce (v ∷ vs) = (list_any (λ w. nat_eq w v) vs ≡ false) × AreOnce vs

-- each place has the text of its argument, which is there
AreThere : List Text → List Text → List Place → Type 0
AreThere nu args [] = Unit {0}
AreThere nu args (p ∷ ps) = ((t : Text) × (slice_get args p.arg ≡ Some t) × (slice_get nu p.variable ≡ Some t)) × AreThere nu args ps

apart : (b c : Bool) → (b || c) ≡ false → (b ≡ false) × (c ≡ false)
apart true c e = absurd (let no : ⊥ = cc in no)
apart false c e = (refl, e)

other : (a b : ℕ) → nat_eq a b ≡ false → b ≡ a → ⊥
other a b e h = grind (arith, nat_tests)

there_put : (nu args : List Text) (ps : List Place) (v : ℕ) (t : Text) → list_any (λ w. nat_eq w v) (place_variables ps) ≡ false →
    AreThere nu args ps → AreThere (put nu v t) args ps
unfolding AreThere
there_put nu args [] v t n h = tt
there_put nu args (p ∷ ps) v t n h =
    let a = apart (nat_eq p.variable v) (list_any (λ w. nat_eq w v) (place_variables ps)) n in
    ((h.0.0, h.0.1, get_other nu v p.variable t h.0.0 (other p.variable v a.0) h.0.2), there_put nu args ps v t a.1 h.1)

arg_there : (args : List Text) (k : ℕ) → k < length args → (t : Text) × (slice_get args k ≡ Some t)
arg_there [] k l = absurd (omega arith)
arg_there (x ∷ xs) zero l = (x, refl)
arg_there (x ∷ xs) (suc k) l = arg_there xs k (omega arith)

some_there : (args : List Text) (ps : List Place) → AreOnce (place_variables ps) → ArgsBelow (length args) ps → (nu : List Text) × AreThere nu args ps
unfolding AreOnce AreThere
some_there args [] o l = ([], tt)
some_there args (p ∷ ps) o l =
    let rest = some_there args ps o.1 l.1 in
    let arg = arg_there args p.arg l.0 in
    (put rest.0 p.variable arg.0, ((arg.0, arg.1, get_put rest.0 p.variable arg.0), there_put rest.0 args ps p.variable arg.0 o.0 rest.1))

given : (nu args : List Text) (ps : List Place) → AreThere nu args ps → IsGiven nu args ps
unfolding AreThere
given nu args [] h = tt
given nu args (p ∷ ps) h = (h.0.2 ∙ sym h.0.1, given nu args ps h.1)

-- variables are added once
by_false : (b : Bool) → (b || false) ≡ b
by_false true = refl
by_false false = refl

by_or : (a b c d : Bool) → b ≡ (c || d) → (a || b) ≡ ((a || c) || d)
by_or true b c d e = refl
by_or false b c d e = e

any_more : (vs : List ℕ) (v w : ℕ) → list_any (λ u. nat_eq u w) (vs ++ v ∷ []) ≡ (list_any (λ u. nat_eq u w) vs || nat_eq v w)
any_more [] v w = by_false (nat_eq v w)
any_more (u ∷ vs) v w = by_or (nat_eq u w) _ _ _ (any_more vs v w)

neither : (b c : Bool) → b ≡ false → c ≡ false → (b || c) ≡ false
neither b c p q = rw (p, q) refl

turned : (a b : ℕ) → nat_eq a b ≡ false → nat_eq b a ≡ false
turned a b e = grind (arith, nat_tests)

once_more : (vs : List ℕ) (v : ℕ) → list_any (λ w. nat_eq w v) vs ≡ false → AreOnce vs → AreOnce (vs ++ v ∷ [])
unfolding AreOnce
once_more [] v n o = (refl, tt)
once_more (w ∷ vs) v n o =
    let a = apart (nat_eq w v) (list_any (λ u. nat_eq u v) vs) n in
    (any_more vs v w ∙ neither _ _ o.0 (turned w v a.0), once_more vs v a.1 o.1)

once_by : (b : Bool) (vs : List ℕ) (v : ℕ) → list_any (λ w. nat_eq w v) vs ≡ b → AreOnce vs → AreOnce (if b then vs else vs ++ v ∷ [])
once_by true vs v e o = o
once_by false vs v e o = once_more vs v e o

once_terms : (vs : List ℕ) (ts : List AtomTerm) → AreOnce vs → AreOnce (with_terms vs ts)
once_terms vs [] o = o
once_terms vs (Constant t ∷ ts) o = once_terms vs ts o
once_terms vs (Variable v ∷ ts) o = once_terms (with_term vs (Variable v)) ts (once_by (list_any (λ w. nat_eq w v) vs) vs v refl o)

-- places for the variables of terms can be given
pub can_be_given : (args : List Text) (ps : List Place) (ts : List AtomTerm) → place_variables ps ≡ with_terms [] ts → ArgsBelow (length args) ps →
    (nu : List Text) × IsGiven nu args ps
unfolding AreOnce
can_be_given args ps ts e l =
    let once : AreOnce (place_variables ps) = rw e (once_terms [] ts tt) in
    let there = some_there args ps once l in
    (there.0, given there.0 args ps there.1)
