-- What is true of an atom whose variables are numbers. Texts lie by number.
use Rattle.std.specs.Prelude.{◌≡◌, List, [], ◌∷◌, Option, Some, IsSomeAnd, slice_get}
use Rattle.qtl_syntax.specs.Tree.{Text}
use Rattle.qtl_truth.specs.declared.event.Event.{Event}
use Rattle.qtl_truth.specs.declared.numbered_atom.AtomTerm.{AtomTerm}
use Rattle.qtl_truth.specs.declared.numbered_atom.AtomTerm.TheVariants.{Variable, Constant}
use Rattle.qtl_truth.specs.declared.numbered_atom.Atom.{Atom}
use Rattle.qtl_truth.specs.Truth.{with_first, Claim, Happens}

-- the text of a term: a variable's by its number, a constant's is itself
abbrev pub text_under : List Text → AtomTerm → Option Text
text_under nu (Variable v) = slice_get nu v
text_under nu (Constant t) = Some t

-- the texts of terms, unless one has none
abbrev pub texts_under : List Text → List AtomTerm → Option (List Text)
texts_under nu [] = Some []
texts_under nu (t ∷ ts) = with_first (text_under nu t) (texts_under nu ts)

-- the event has the name of the atom, and the texts of its terms as arguments
abbrev pub IsAtomOf : List Text → Atom → Event → Type 0
IsAtomOf nu a e = IsSomeAnd (texts_under nu a.terms) (λ args. (e.name ≡ a.name) × (e.args ≡ args))

-- the atom holds at position i of the log
abbrev pub AtomHolds : List Event → List Text → Atom → Claim
AtomHolds log nu a i = IsSomeAnd (texts_under nu a.terms) (λ args. Happens log a.name args i)
