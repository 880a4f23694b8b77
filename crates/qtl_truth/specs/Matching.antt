-- The texts that an event gives to the variables of an atom.
use Rattle.std.specs.Prelude.{◌≡◌, ℕ, ◌<◌, ◌↔◌, List, [], ◌∷◌, ◌++◌, length, Option, Some, None, Bool, true, false, if◌then◌else◌, nat_eq, slice_get}
use Rattle.std.specs.List.{list_any}
use Rattle.qtl_syntax.specs.Tree.{Text}
use Rattle.qtl_truth.specs.declared.event.Event.{Event}
use Rattle.qtl_truth.specs.declared.numbered_atom.AtomTerm.{AtomTerm}
use Rattle.qtl_truth.specs.declared.numbered_atom.AtomTerm.TheVariants.{Variable, Constant}
use Rattle.qtl_truth.specs.declared.numbered_atom.Atom.{Atom}
use Rattle.qtl_truth.specs.declared.matching.Place.{Place}
use Rattle.qtl_truth.specs.NumberedAtom.{text_under, IsAtomOf}

-- each place's variable has the text of the place's argument
abbrev pub IsGiven : List Text → List Text → List Place → Type 0
IsGiven nu args [] = Unit {0}
IsGiven nu args (p ∷ ps) = (slice_get nu p.variable ≡ slice_get args p.arg) × IsGiven nu args ps

-- each place's argument has a number below n
abbrev pub ArgsBelow : ℕ → List Place → Type 0
ArgsBelow n [] = Unit {0}
ArgsBelow n (p ∷ ps) = (p.arg < n) × ArgsBelow n ps

-- the argument of the first place of the variable
abbrev pub arg_at : List Place → ℕ → Option ℕ
arg_at [] v = None
arg_at (p ∷ ps) v = if nat_eq p.variable v then Some p.arg else arg_at ps v

-- the variables of the places
abbrev pub place_variables : List Place → List ℕ
place_variables [] = []
place_variables (p ∷ ps) = p.variable ∷ place_variables ps

-- the variable of the term at the end, unless it is there
abbrev pub with_term : List ℕ → AtomTerm → List ℕ
with_term vs (Variable v) = if list_any (λ w. nat_eq w v) vs then vs else vs ++ v ∷ []
with_term vs (Constant t) = vs

-- the variables of the terms at the end, each once
abbrev pub with_terms : List ℕ → List AtomTerm → List ℕ
with_terms vs [] = vs
with_terms vs (t ∷ ts) = with_terms (with_term vs t) ts

-- the variables of terms, each once, in order of first appearance
abbrev pub variables_of : List AtomTerm → List ℕ
variables_of ts = with_terms [] ts

-- each variable of the atom has one place, in order of first appearance, and an argument of the event. The atom holds at
-- the event exactly under the assignments that give each variable the text of its argument, and there is such an assignment
pub record Binds (a : Atom) (e : Event) (b : List Place) : Type 0 where
  pub each : place_variables b ≡ variables_of a.terms
  pub within : ArgsBelow (length e.args) b
  pub exactly : (nu : List Text) → IsAtomOf nu a e ↔ IsGiven nu e.args b
  pub some : (nu : List Text) × IsAtomOf nu a e

-- a binding, or none where the atom is false at the event under every assignment
abbrev pub IsMatch : Atom → Event → Option (List Place) → Type 0
IsMatch a e None = (nu : List Text) → ¬ IsAtomOf nu a e
IsMatch a e (Some b) = Binds a e b

-- what one term adds to places: where it is taken, the assignments that also give the term the text of argument k
pub record Adds (args : List Text) (k : ℕ) (t : AtomTerm) (old new : List Place) : Type 0 where
  pub each : place_variables new ≡ with_term (place_variables old) t
  pub within : ArgsBelow (length args) new
  pub exactly : (nu : List Text) → (IsGiven nu args old × (text_under nu t ≡ slice_get args k)) ↔ IsGiven nu args new

-- the same where the term is taken; else no assignment that gives the places also gives the term that text
abbrev pub IsTaken : List Text → ℕ → AtomTerm → List Place → List Place → Bool → Type 0
IsTaken args k t old new true = Adds args k t old new
IsTaken args k t old new false = (nu : List Text) → IsGiven nu args old → ¬ (text_under nu t ≡ slice_get args k)
