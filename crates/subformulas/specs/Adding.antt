-- What the parts of `needs` add to a list.
use Rattle.std.specs.Prelude.{◌≡◌, ◌≢◌, ℕ, ◌<◌, ◌≤◌, List, ◌++◌, length, Option, slice_get}
use Rattle.std.specs.Option.{option_and_then}
use Rattle.qtl_syntax.specs.Tree.{Text}
use Rattle.qtl_truth.specs.Matching.{arg_at}
use Rattle.qtl_truth.specs.declared.event.Event.{Event}
use Rattle.qtl_truth.specs.declared.matching.Place.{Place}
use Rattle.qtl_truth.specs.declared.numbered_atom.Atom.{Atom}
use Rattle.subformulas.specs.Matched.{AreMatched, AreUses, AreUsesBelow, AreWithin, IsMatched, IsUse, IsWithin}
use Rattle.subformulas.specs.NeedList.{AreByVariable, EntryArgsBelow, EntryVariablesBelow, texts_for, with_texts}
use Rattle.subformulas.specs.Needs.{need, needed_by}
use Rattle.subformulas.specs.Texts.{as_list}
use Rattle.subformulas.specs.declared.need_list.Need.{Need}
use Rattle.subformulas.specs.declared.need_list.Stretch.{Stretch}
use Rattle.subformulas.specs.declared.need_list.Use.{Use}
use Rattle.subformulas.specs.declared.table.Kind.{Kind}
use Rattle.subformulas.specs.declared.table.Kind.TheVariants as kind
use Rattle.subformulas.specs.declared.table.Sub.{Sub}

-- the text of the argument of x's first place
abbrev pub place_text : (args : List Text) → List Place → (x : ℕ) → Option Text
place_text args ps x = option_and_then (slice_get args) (arg_at ps x)

-- what holds of entries and uses however many there are
pub record AreListed (variables : ℕ) (args : List Text) (entries : List Need) (uses : List Use) :
    Type 0 where
  pub order : AreByVariable entries
  pub within : EntryArgsBelow (length args) entries
  pub below : EntryVariablesBelow variables entries
  pub uses_below : AreUsesBelow variables args entries uses

-- a text that x is given comes behind those that x needs, unless it is there, and its use behind the
-- others
pub record AddsUse (args : List Text) (x : ℕ) (text : Option Text) (before after : List Need)
    (old new : List Use) : Type 0 where
  pub own : texts_for x args after ≡ with_texts (texts_for x args before) (as_list text)
  pub others : (y : ℕ) → y ≢ x → texts_for y args after ≡ texts_for y args before
  pub added : List Use
  pub behind : new ≡ old ++ added
  pub is_use : IsUse args after x text added

-- so of each variable below n
pub record AddsUses (args : List Text) (n : ℕ) (text : ℕ → Option Text) (before after : List Need)
    (old new : List Use) : Type 0 where
  pub own : (x : ℕ) → x < n →
      texts_for x args after ≡ with_texts (texts_for x args before) (as_list (text x))
  pub later : (x : ℕ) → n ≤ x → texts_for x args after ≡ texts_for x args before
  pub added : List Use
  pub behind : new ≡ old ++ added
  pub are_uses : AreUses args after text n added

-- what a subformula of this kind adds, and where its uses stand
pub record AddsKind (variables : ℕ) (e : Event) (k : Kind) (before after : List Need)
    (old new : List Use) (slot : Option Stretch) : Type 0 where
  pub texts : (x : ℕ) →
      texts_for x e.args after ≡ with_texts (texts_for x e.args before) (needed_by x e k)
  pub added : List Use
  pub behind : new ≡ old ++ added
  pub matched : (a : Atom) → k ≡ kind.Atom a → IsMatched variables e after new a slot
  pub within : IsWithin (length new) slot

-- a list has what these subformulas need and use
pub record IsFilled (variables : ℕ) (subs : List Sub) (e : Event) (entries : List Need)
    (uses : List Use) (slots : List (Option Stretch)) : Type 0 where
  pub texts : (x : ℕ) → texts_for x e.args entries ≡ need subs x e
  pub matched : AreMatched variables subs e entries uses slots
  pub within : AreWithin (length uses) slots
  pub count : length slots ≡ length subs
