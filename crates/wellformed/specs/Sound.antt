-- What holds of each specification without macros: its variables are in order and bound, and its bounds are lawful.
use Rattle.std.specs.Prelude.{ℕ, ◌+◌, List, [], ◌∷◌, ◌++◌, Bool, true, ◌&&◌, nat_eq}
use Rattle.std.specs.List.{list_any, list_all}
use Rattle.qtl_syntax.specs.Lawful.{is_lawful_bound}
use Rattle.qtl_syntax.specs.Tree.{Text}
use Rattle.qtl_truth.specs.declared.numbered_atom.AtomTerm.{AtomTerm}
use Rattle.qtl_truth.specs.declared.numbered_atom.AtomTerm.TheVariants.{Variable, Constant}
use Rattle.wellformed.specs.CoreTree.{CoreFormula, True, False, Atom, Not, And, Or, Implies, Iff, Prev, Since, TimedSince, Once, TimedOnce, Always, TimedAlways, Interval, Exists, Forall}

-- how many nodes a formula has
abbrev pub nodes : CoreFormula → ℕ
nodes True = 1
nodes False = 1
nodes (Atom a) = 1
nodes (Not f) = 1 + nodes f
nodes (And f g) = 1 + (nodes f + nodes g)
nodes (Or f g) = 1 + (nodes f + nodes g)
nodes (Implies f g) = 1 + (nodes f + nodes g)
nodes (Iff f g) = 1 + (nodes f + nodes g)
nodes (Prev f) = 1 + nodes f
nodes (Since f g) = 1 + (nodes f + nodes g)
nodes (TimedSince b f g) = 1 + (nodes f + nodes g)
nodes (Once f) = 1 + nodes f
nodes (TimedOnce b f) = 1 + nodes f
nodes (Always f) = 1 + nodes f
nodes (TimedAlways b f) = 1 + nodes f
nodes (Interval f g) = 1 + (nodes f + nodes g)
nodes (Exists v f) = 1 + nodes f
nodes (Forall v f) = 1 + nodes f

-- the variables that the quantifiers of a formula bind, in order of the text
abbrev pub bound_by : CoreFormula → List ℕ
bound_by True = []
bound_by False = []
bound_by (Atom a) = []
bound_by (Not f) = bound_by f
bound_by (And f g) = bound_by f ++ bound_by g
bound_by (Or f g) = bound_by f ++ bound_by g
bound_by (Implies f g) = bound_by f ++ bound_by g
bound_by (Iff f g) = bound_by f ++ bound_by g
bound_by (Prev f) = bound_by f
bound_by (Since f g) = bound_by f ++ bound_by g
bound_by (TimedSince b f g) = bound_by f ++ bound_by g
bound_by (Once f) = bound_by f
bound_by (TimedOnce b f) = bound_by f
bound_by (Always f) = bound_by f
bound_by (TimedAlways b f) = bound_by f
bound_by (Interval f g) = bound_by f ++ bound_by g
bound_by (Exists v f) = v ∷ bound_by f
bound_by (Forall v f) = v ∷ bound_by f

-- each variable of the terms is one of these
abbrev pub are_among : List ℕ → List AtomTerm → Bool
are_among vs [] = true
are_among vs (Variable v ∷ ts) = list_any (λ w. nat_eq w v) vs && are_among vs ts
are_among vs (Constant t ∷ ts) = are_among vs ts

-- each variable that occurs is one of these or is bound by a quantifier round it
abbrev pub is_closed : List ℕ → CoreFormula → Bool
is_closed vs True = true
is_closed vs False = true
is_closed vs (Atom a) = are_among vs a.terms
is_closed vs (Not f) = is_closed vs f
is_closed vs (And f g) = is_closed vs f && is_closed vs g
is_closed vs (Or f g) = is_closed vs f && is_closed vs g
is_closed vs (Implies f g) = is_closed vs f && is_closed vs g
is_closed vs (Iff f g) = is_closed vs f && is_closed vs g
is_closed vs (Prev f) = is_closed vs f
is_closed vs (Since f g) = is_closed vs f && is_closed vs g
is_closed vs (TimedSince b f g) = is_closed vs f && is_closed vs g
is_closed vs (Once f) = is_closed vs f
is_closed vs (TimedOnce b f) = is_closed vs f
is_closed vs (Always f) = is_closed vs f
is_closed vs (TimedAlways b f) = is_closed vs f
is_closed vs (Interval f g) = is_closed vs f && is_closed vs g
is_closed vs (Exists v f) = is_closed (v ∷ vs) f
is_closed vs (Forall v f) = is_closed (v ∷ vs) f

-- each bound is at most 1,048,574
abbrev pub has_lawful_bounds : CoreFormula → Bool
has_lawful_bounds True = true
has_lawful_bounds False = true
has_lawful_bounds (Atom a) = true
has_lawful_bounds (Not f) = has_lawful_bounds f
has_lawful_bounds (And f g) = has_lawful_bounds f && has_lawful_bounds g
has_lawful_bounds (Or f g) = has_lawful_bounds f && has_lawful_bounds g
has_lawful_bounds (Implies f g) = has_lawful_bounds f && has_lawful_bounds g
has_lawful_bounds (Iff f g) = has_lawful_bounds f && has_lawful_bounds g
has_lawful_bounds (Prev f) = has_lawful_bounds f
has_lawful_bounds (Since f g) = has_lawful_bounds f && has_lawful_bounds g
has_lawful_bounds (TimedSince b f g) = is_lawful_bound b && (has_lawful_bounds f && has_lawful_bounds g)
has_lawful_bounds (Once f) = has_lawful_bounds f
has_lawful_bounds (TimedOnce b f) = is_lawful_bound b && has_lawful_bounds f
has_lawful_bounds (Always f) = has_lawful_bounds f
has_lawful_bounds (TimedAlways b f) = is_lawful_bound b && has_lawful_bounds f
has_lawful_bounds (Interval f g) = has_lawful_bounds f && has_lawful_bounds g
has_lawful_bounds (Exists v f) = has_lawful_bounds f
has_lawful_bounds (Forall v f) = has_lawful_bounds f

-- how many nodes the properties have together
abbrev pub nodes_of : List (Text × CoreFormula) → ℕ
nodes_of [] = 0
nodes_of (p ∷ props) = nodes p.1 + nodes_of props

-- the variables that their quantifiers bind, in order of the text
abbrev pub variables_bound : List (Text × CoreFormula) → List ℕ
variables_bound [] = []
variables_bound (p ∷ props) = bound_by p.1 ++ variables_bound props

-- each variable that occurs in them is bound by a quantifier round it
abbrev pub are_closed : List (Text × CoreFormula) → Bool
are_closed props = list_all (λ p. is_closed [] p.1) props

-- each of their bounds is at most 1,048,574
abbrev pub have_lawful_bounds : List (Text × CoreFormula) → Bool
have_lawful_bounds props = list_all (λ p. has_lawful_bounds p.1) props
