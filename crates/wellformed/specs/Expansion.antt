-- Calls replaced by bodies, and names by numbers. The items before are given with the nearest first.
use Rattle.std.specs.Prelude.{◌≡◌, ℕ, ◌+◌, List, [], ◌∷◌, ◌++◌, length, map, if◌then◌else◌, bytes_eq, IsTrue, MatchBool}
use Rattle.std.specs.List.{zip, list_any}
use Rattle.qtl_syntax.specs.declared.formula.Term.{Term}
use Rattle.qtl_syntax.specs.declared.formula.Term.TheVariants as term
use Rattle.qtl_syntax.specs.Tree as surface
use Rattle.qtl_syntax.specs.Tree.{Text, Formula, Item, Pred, Prop}
use Rattle.qtl_truth.specs.declared.numbered_atom.AtomTerm.{AtomTerm}
use Rattle.qtl_truth.specs.declared.numbered_atom.AtomTerm.TheVariants as number
use Rattle.wellformed.specs.declared.core_formula.Variable.{Variable}
use Rattle.wellformed.specs.CoreTree.{CoreFormula, True, False, Atom, Not, And, Or, Implies, Iff, Prev, Since, TimedSince, Once, TimedOnce, Always, TimedAlways, Interval, Exists, Forall}

-- how many quantifiers a formula has after expansion, where count tells how many a call brings
abbrev pub quantifiers_in : (Text → ℕ) → Formula → ℕ
quantifiers_in count surface.True = 0
quantifiers_in count surface.False = 0
quantifiers_in count (surface.Atom name terms) = count name
quantifiers_in count (surface.Not f) = quantifiers_in count f
quantifiers_in count (surface.And f g) = quantifiers_in count f + quantifiers_in count g
quantifiers_in count (surface.Or f g) = quantifiers_in count f + quantifiers_in count g
quantifiers_in count (surface.Implies f g) = quantifiers_in count f + quantifiers_in count g
quantifiers_in count (surface.Iff f g) = quantifiers_in count f + quantifiers_in count g
quantifiers_in count (surface.Prev f) = quantifiers_in count f
quantifiers_in count (surface.Since f g) = quantifiers_in count f + quantifiers_in count g
quantifiers_in count (surface.TimedSince b f g) = quantifiers_in count f + quantifiers_in count g
quantifiers_in count (surface.Once f) = quantifiers_in count f
quantifiers_in count (surface.TimedOnce b f) = quantifiers_in count f
quantifiers_in count (surface.Always f) = quantifiers_in count f
quantifiers_in count (surface.TimedAlways b f) = quantifiers_in count f
quantifiers_in count (surface.Interval f g) = quantifiers_in count f + quantifiers_in count g
quantifiers_in count (surface.Exists x f) = 1 + quantifiers_in count f
quantifiers_in count (surface.Forall x f) = 1 + quantifiers_in count f

-- how many quantifiers the body of the macro of this name has, if a macro has it
abbrev pub call_quantifiers : List Item → Text → ℕ
call_quantifiers [] name = 0
call_quantifiers (Prop p body ∷ before) name = call_quantifiers before name
call_quantifiers (Pred p params body ∷ before) name =
    if bytes_eq p name then quantifiers_in (call_quantifiers before) body else call_quantifiers before name

-- how many quantifiers a formula has after expansion under the items before it
abbrev pub quantifiers : List Item → Formula → ℕ
quantifiers before f = quantifiers_in (call_quantifiers before) f

-- the names of the quantifiers of a formula after expansion, in order of the text
abbrev pub names_in : (Text → List Text) → Formula → List Text
names_in called_names surface.True = []
names_in called_names surface.False = []
names_in called_names (surface.Atom name terms) = called_names name
names_in called_names (surface.Not f) = names_in called_names f
names_in called_names (surface.And f g) = names_in called_names f ++ names_in called_names g
names_in called_names (surface.Or f g) = names_in called_names f ++ names_in called_names g
names_in called_names (surface.Implies f g) = names_in called_names f ++ names_in called_names g
names_in called_names (surface.Iff f g) = names_in called_names f ++ names_in called_names g
names_in called_names (surface.Prev f) = names_in called_names f
names_in called_names (surface.Since f g) = names_in called_names f ++ names_in called_names g
names_in called_names (surface.TimedSince b f g) = names_in called_names f ++ names_in called_names g
names_in called_names (surface.Once f) = names_in called_names f
names_in called_names (surface.TimedOnce b f) = names_in called_names f
names_in called_names (surface.Always f) = names_in called_names f
names_in called_names (surface.TimedAlways b f) = names_in called_names f
names_in called_names (surface.Interval f g) = names_in called_names f ++ names_in called_names g
names_in called_names (surface.Exists x f) = x ∷ names_in called_names f
names_in called_names (surface.Forall x f) = x ∷ names_in called_names f

-- the names of the quantifiers of the macro of this name, if a macro has it
abbrev pub call_names : List Item → Text → List Text
call_names [] name = []
call_names (Prop p body ∷ before) name = call_names before name
call_names (Pred p params body ∷ before) name = if bytes_eq p name then names_in (call_names before) body else call_names before name

-- the names of the quantifiers of a formula after expansion under the items before it
abbrev pub quantifier_names : List Item → Formula → List Text
quantifier_names before f = names_in (call_names before) f

-- the expanded size: each node counts 1, and a call 1 more than its macro's body
abbrev pub size_in : (Text → ℕ) → Formula → ℕ
size_in sizes surface.True = 1
size_in sizes surface.False = 1
size_in sizes (surface.Atom name terms) = 1 + sizes name
size_in sizes (surface.Not f) = 1 + size_in sizes f
size_in sizes (surface.And f g) = 1 + (size_in sizes f + size_in sizes g)
size_in sizes (surface.Or f g) = 1 + (size_in sizes f + size_in sizes g)
size_in sizes (surface.Implies f g) = 1 + (size_in sizes f + size_in sizes g)
size_in sizes (surface.Iff f g) = 1 + (size_in sizes f + size_in sizes g)
size_in sizes (surface.Prev f) = 1 + size_in sizes f
size_in sizes (surface.Since f g) = 1 + (size_in sizes f + size_in sizes g)
size_in sizes (surface.TimedSince b f g) = 1 + (size_in sizes f + size_in sizes g)
size_in sizes (surface.Once f) = 1 + size_in sizes f
size_in sizes (surface.TimedOnce b f) = 1 + size_in sizes f
size_in sizes (surface.Always f) = 1 + size_in sizes f
size_in sizes (surface.TimedAlways b f) = 1 + size_in sizes f
size_in sizes (surface.Interval f g) = 1 + (size_in sizes f + size_in sizes g)
size_in sizes (surface.Exists x f) = 1 + size_in sizes f
size_in sizes (surface.Forall x f) = 1 + size_in sizes f

-- the expanded size of the body of the macro of this name, if a macro has it
abbrev pub call_size : List Item → Text → ℕ
call_size [] name = 0
call_size (Prop p body ∷ before) name = call_size before name
call_size (Pred p params body ∷ before) name = if bytes_eq p name then size_in (call_size before) body else call_size before name

-- the expanded size of a formula under the items before it
abbrev pub size : List Item → Formula → ℕ
size before f = size_in (call_size before) f

-- what names stand for; the first pair with a name counts
abbrev pub Names : Type 0
Names = List (Text × AtomTerm)

-- what a name stands for; an accepted specification asks for no other name
abbrev pub meant : Names → Text → AtomTerm
meant [] x = number.Constant x
meant ((y, t) ∷ names) x = if bytes_eq y x then t else meant names x

-- a term whose variable is a number, or the term of the call where it is a parameter
abbrev pub numbered_term : Names → Term → AtomTerm
numbered_term names (term.Variable x) = meant names x
numbered_term names (term.Constant t) = number.Constant t

-- the formula with calls replaced; its quantifiers have the numbers from next on, in order of the text
abbrev pub expanded : (Text → List AtomTerm → ℕ → CoreFormula) → (Text → ℕ) → Names → ℕ → Formula → CoreFormula
expanded call count names next surface.True = True
expanded call count names next surface.False = False
expanded call count names next (surface.Atom name terms) = call name (map (numbered_term names) terms) next
expanded call count names next (surface.Not f) = Not (expanded call count names next f)
expanded call count names next (surface.And f g) =
    And (expanded call count names next f) (expanded call count names (next + quantifiers_in count f) g)
expanded call count names next (surface.Or f g) =
    Or (expanded call count names next f) (expanded call count names (next + quantifiers_in count f) g)
expanded call count names next (surface.Implies f g) =
    Implies (expanded call count names next f) (expanded call count names (next + quantifiers_in count f) g)
expanded call count names next (surface.Iff f g) =
    Iff (expanded call count names next f) (expanded call count names (next + quantifiers_in count f) g)
expanded call count names next (surface.Prev f) = Prev (expanded call count names next f)
expanded call count names next (surface.Since f g) =
    Since (expanded call count names next f) (expanded call count names (next + quantifiers_in count f) g)
expanded call count names next (surface.TimedSince b f g) =
    TimedSince b (expanded call count names next f) (expanded call count names (next + quantifiers_in count f) g)
expanded call count names next (surface.Once f) = Once (expanded call count names next f)
expanded call count names next (surface.TimedOnce b f) = TimedOnce b (expanded call count names next f)
expanded call count names next (surface.Always f) = Always (expanded call count names next f)
expanded call count names next (surface.TimedAlways b f) = TimedAlways b (expanded call count names next f)
expanded call count names next (surface.Interval f g) =
    Interval (expanded call count names next f) (expanded call count names (next + quantifiers_in count f) g)
expanded call count names next (surface.Exists x f) =
    Exists next (expanded call count ((x, number.Variable next) ∷ names) (next + 1) f)
expanded call count names next (surface.Forall x f) =
    Forall next (expanded call count ((x, number.Variable next) ∷ names) (next + 1) f)

-- what stands for a call of this name: the body of the macro of this name, with its parameters standing for
-- the terms and nothing else; where no macro has the name, an atom
abbrev pub called : List Item → Text → List AtomTerm → ℕ → CoreFormula
called [] name terms next = Atom (record { name = name; terms = terms })
called (Prop p body ∷ before) name terms next = called before name terms next
called (Pred p params body ∷ before) name terms next =
    if bytes_eq p name then expanded (called before) (call_quantifiers before) (zip params terms) next body
    else called before name terms next

-- the expansion of a formula under the items before it
abbrev pub expansion : List Item → Names → ℕ → Formula → CoreFormula
expansion before names next f = expanded (called before) (call_quantifiers before) names next f

-- each variable of the terms is one of these names
abbrev pub AreBound : List Text → List Term → Type 0
AreBound scope [] = Unit {0}
AreBound scope (term.Variable x ∷ ts) = IsTrue (list_any (λ y. bytes_eq y x) scope) × AreBound scope ts
AreBound scope (term.Constant t ∷ ts) = AreBound scope ts

-- the macro of this name, if there is one, takes n terms
abbrev pub Takes : List Item → Text → ℕ → Type 0
Takes [] name n = Unit {0}
Takes (Prop p body ∷ before) name n = Takes before name n
Takes (Pred p params body ∷ before) name n =
    MatchBool (bytes_eq p name) (length params ≡ n) (Takes before name n)

-- each variable is bound by a quantifier round it or is in scope, and each call has as many terms as it takes
abbrev pub IsClosedIn : (Text → ℕ → Type 0) → List Text → Formula → Type 0
IsClosedIn takes scope surface.True = Unit {0}
IsClosedIn takes scope surface.False = Unit {0}
IsClosedIn takes scope (surface.Atom name terms) = AreBound scope terms × takes name (length terms)
IsClosedIn takes scope (surface.Not f) = IsClosedIn takes scope f
IsClosedIn takes scope (surface.And f g) = IsClosedIn takes scope f × IsClosedIn takes scope g
IsClosedIn takes scope (surface.Or f g) = IsClosedIn takes scope f × IsClosedIn takes scope g
IsClosedIn takes scope (surface.Implies f g) = IsClosedIn takes scope f × IsClosedIn takes scope g
IsClosedIn takes scope (surface.Iff f g) = IsClosedIn takes scope f × IsClosedIn takes scope g
IsClosedIn takes scope (surface.Prev f) = IsClosedIn takes scope f
IsClosedIn takes scope (surface.Since f g) = IsClosedIn takes scope f × IsClosedIn takes scope g
IsClosedIn takes scope (surface.TimedSince b f g) = IsClosedIn takes scope f × IsClosedIn takes scope g
IsClosedIn takes scope (surface.Once f) = IsClosedIn takes scope f
IsClosedIn takes scope (surface.TimedOnce b f) = IsClosedIn takes scope f
IsClosedIn takes scope (surface.Always f) = IsClosedIn takes scope f
IsClosedIn takes scope (surface.TimedAlways b f) = IsClosedIn takes scope f
IsClosedIn takes scope (surface.Interval f g) = IsClosedIn takes scope f × IsClosedIn takes scope g
IsClosedIn takes scope (surface.Exists x f) = IsClosedIn takes (x ∷ scope) f
IsClosedIn takes scope (surface.Forall x f) = IsClosedIn takes (x ∷ scope) f

-- the same of each macro, under the items before it
abbrev pub AreClosed : List Item → Type 0
AreClosed [] = Unit {0}
AreClosed (Prop p body ∷ before) = AreClosed before
AreClosed (Pred p params body ∷ before) = IsClosedIn (Takes before) params body × AreClosed before

-- the properties of items, expanded one after the other, where next is the first number that is free
abbrev pub expanded_props : List Item → ℕ → List Item → List (Text × CoreFormula)
expanded_props before next [] = []
expanded_props before next (Pred p params body ∷ items) = expanded_props (Pred p params body ∷ before) next items
expanded_props before next (Prop name body ∷ items) =
    (name, expansion before [] next body) ∷ expanded_props (Prop name body ∷ before) (next + quantifiers before body) items

-- how many quantifiers the properties have after expansion
abbrev pub props_quantifiers : List Item → List Item → ℕ
props_quantifiers before [] = 0
props_quantifiers before (Pred p params body ∷ items) = props_quantifiers (Pred p params body ∷ before) items
props_quantifiers before (Prop name body ∷ items) = quantifiers before body + props_quantifiers (Prop name body ∷ before) items

-- the variables of quantifiers with these names, which stand in the property of this number
abbrev pub variables_named : ℕ → List Text → List Variable
variables_named property names = map (λ x. record { name = x; property = property }) names

-- the variables of the properties of items, in order of the text, where the first property has the number p
abbrev pub props_variables : List Item → ℕ → List Item → List Variable
props_variables before p [] = []
props_variables before p (Pred name params body ∷ items) = props_variables (Pred name params body ∷ before) p items
props_variables before p (Prop name body ∷ items) =
    variables_named p (quantifier_names before body) ++ props_variables (Prop name body ∷ before) (p + 1) items
