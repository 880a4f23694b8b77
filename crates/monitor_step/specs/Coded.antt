-- The codes of an event's texts: beside the entries of its needs, and beside the uses of its atoms.
use Rattle.std.specs.Prelude.{◌≡◌, ℕ, ◌+◌, ◌*◌, ◌<◌, List, [], ◌∷◌, Option, Some, None, MatchBool, slice_get, slice_index_or}
use Rattle.qtl_syntax.specs.Tree.{Text}
use Rattle.qtl_truth.specs.declared.event.Event.{Event}
use Rattle.qtl_truth.specs.declared.numbered_atom.Atom.{Atom}
use Rattle.subformulas.specs.Facts.{fact_of}
use Rattle.subformulas.specs.Matched.{items_of, AreMatched}
use Rattle.subformulas.specs.NeedList.{texts_for}
use Rattle.subformulas.specs.Needs.{fits}
use Rattle.subformulas.specs.declared.need_list.Need.{Need}
use Rattle.subformulas.specs.declared.need_list.Stretch.{Stretch}
use Rattle.subformulas.specs.declared.need_list.Use.{Use}
use Rattle.subformulas.specs.declared.table.Kind.TheVariants as kind
use Rattle.subformulas.specs.declared.table.Sub.{Sub}
use Rattle.value_codes.specs.Pairs.{Pairs, code_of}
use Rattle.bdd_ops.specs.Codes.{code_list_literals}
use Rattle.bdd_ops.specs.declared.code_cubes.BlockCode.{BlockCode}
use Rattle.monitor_model.specs.Rows.{Frame, fact_literals}

-- the codes of needed texts, those of variable x from its start on; and how many starts and codes it
-- can hold before it takes memory
pub record Served : Type 0 where
  pub starts : List ℕ
  pub codes : List ℕ
  pub start_room : ℕ
  pub code_room : ℕ

-- the code of the nth text that x needs
abbrev pub code_at : Served → (x nth : ℕ) → Option ℕ
code_at c x nth = slice_get c.codes (slice_index_or c.starts x 0 + nth)

-- these are the codes of the uses, each with its variable's block
abbrev pub IsCoding : (bits : ℕ) → Served → List Use → List BlockCode → Type 0
IsCoding bits served [] cs = cs ≡ []
IsCoding bits served (u ∷ us) cs =
    (c : ℕ) × (rest : List BlockCode) ×
    (cs ≡ record { block = record { first = u.variable * bits; bits = bits }; code = c } ∷ rest) ×
    (code_at served u.variable u.nth ≡ Some c) × IsCoding bits served us rest

-- each needed text has a code in its variable's book, and this one is listed
abbrev pub AreCodes :
    (variables : ℕ) → Event → List Need → (books : ℕ → Pairs) → Served → Type 0
AreCodes variables e entries books served =
    (x nth : ℕ) (t : Text) → x < variables → slice_get (texts_for x e.args entries) nth ≡ Some t →
    (c : ℕ) × (code_at served x nth ≡ Some c) × (code_of (books x) t ≡ Some c)

-- where the atom fits the event the codes of its stretch are those of the texts that it gives
abbrev pub IsCoded : Frame → List BlockCode → Atom → Option Stretch → Type 0
IsCoded fr coded a slot =
    MatchBool (fits a (fact_of fr.event))
    ((r : Stretch) × (slot ≡ Some r) ×
    (code_list_literals (items_of r coded) ≡
    fact_literals fr a (fact_of fr.event) fr.setting.variables))
    (slot ≡ None)

-- so of each atom, by number of subformula, from 0
abbrev pub AreCoded : Frame → List Sub → List BlockCode → List (Option Stretch) → Type 0
AreCoded fr subs coded slots =
    (k : ℕ) (s : Sub) (a : Atom) → slice_get subs k ≡ Some s → s.kind ≡ kind.Atom a →
    IsCoded fr coded a (slice_index_or slots k None)

-- these are the codes of the atoms of each frame of so many bits whose atoms have these uses, and whose
-- needed texts have these codes
abbrev pub AreAtomCodes : (bits : ℕ) → Served → List Use → List BlockCode → Type 0
AreAtomCodes bits served uses coded =
    (fr : Frame) (entries : List Need) (slots : List (Option Stretch)) → fr.setting.bits ≡ bits →
    AreMatched fr.setting.variables fr.setting.subs fr.event entries uses slots →
    AreCodes fr.setting.variables fr.event entries fr.books served →
    AreCoded fr fr.setting.subs coded slots
