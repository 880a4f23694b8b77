-- What a list of needs says of the atoms that an event matches: which of their variables' needed texts
-- the event gives them.
use Rattle.std.specs.Prelude.{◌≡◌, ℕ, zero, suc, ◌-◌, ◌<◌, ◌≤◌, List, [], ◌∷◌, ◌++◌, length, take, drop, Option, Some, None, MatchBool, slice_get, slice_index_or}
use Rattle.std.specs.List.{AllByRecursion}
use Rattle.qtl_syntax.specs.Tree.{Text}
use Rattle.qtl_truth.specs.declared.event.Event.{Event}
use Rattle.qtl_truth.specs.declared.numbered_atom.Atom.{Atom}
use Rattle.subformulas.specs.Facts.{fact_of}
use Rattle.subformulas.specs.NeedList.{texts_for}
use Rattle.subformulas.specs.Needs.{given, fits}
use Rattle.subformulas.specs.declared.need_list.Need.{Need}
use Rattle.subformulas.specs.declared.need_list.Stretch.{Stretch}
use Rattle.subformulas.specs.declared.need_list.Use.{Use}
use Rattle.subformulas.specs.declared.table.Kind.TheVariants as kind
use Rattle.subformulas.specs.declared.table.Sub.{Sub}

-- the items of a stretch of a list
abbrev pub items_of : {A : Type 0} → Stretch → List A → List A
items_of r xs = take (r.to - r.from) (drop r.from xs)

-- the use of a text by variable x, if it is given one: the text is the nth one that x needs
abbrev pub IsUse : (args : List Text) → List Need → (x : ℕ) → Option Text → List Use → Type 0
IsUse args entries x None us = us ≡ []
IsUse args entries x (Some t) us =
    (u : Use) × (us ≡ u ∷ []) × (u.variable ≡ x) ×
    (slice_get (texts_for x args entries) u.nth ≡ Some t)

-- the uses of the texts that the variables below n are given, in ascending order
abbrev pub AreUses :
    (args : List Text) → List Need → (text : ℕ → Option Text) → (n : ℕ) → List Use → Type 0
AreUses args entries text zero us = us ≡ []
AreUses args entries text (suc n) us =
    (front : List Use) × (own : List Use) × (us ≡ front ++ own) ×
    AreUses args entries text n front × IsUse args entries n (text n) own

-- where the atom fits the event the uses of the texts that it is given stand in a stretch of the
-- list; else it has none
abbrev pub IsMatched :
    (variables : ℕ) → Event → List Need → List Use → Atom → Option Stretch → Type 0
IsMatched variables e entries uses a slot =
    MatchBool (fits a (fact_of e))
    ((r : Stretch) × (slot ≡ Some r) ×
    AreUses e.args entries (given a.terms e.args) variables (items_of r uses))
    (slot ≡ None)

-- so of each atom, by number of subformula, from 0
abbrev pub AreMatched :
    (variables : ℕ) → List Sub → Event → List Need → List Use → List (Option Stretch) → Type 0
AreMatched variables subs e entries uses slots =
    (k : ℕ) (s : Sub) (a : Atom) → slice_get subs k ≡ Some s → s.kind ≡ kind.Atom a →
    IsMatched variables e entries uses a (slice_index_or slots k None)

-- the stretch, if there is one, stands within a list of so many
abbrev pub IsWithin : (count : ℕ) → Option Stretch → Type 0
IsWithin count slot = (r : Stretch) → slot ≡ Some r → (r.from ≤ r.to) × (r.to ≤ count)

-- so of each
abbrev pub AreWithin : (count : ℕ) → List (Option Stretch) → Type 0
AreWithin count slots = (k : ℕ) → IsWithin count (slice_index_or slots k None)

-- each use is one of a variable below n, and of a text that it needs
abbrev pub AreUsesBelow : (n : ℕ) → (args : List Text) → List Need → List Use → Type 0
AreUsesBelow n args entries us =
    AllByRecursion
    (λ u. (u.variable < n) × (u.nth < length (texts_for u.variable args entries))) us
