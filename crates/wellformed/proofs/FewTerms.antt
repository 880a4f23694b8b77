-- The atoms of an expansion have no more terms than those of the items: a term stands for each term, and a body for a call.
use Rattle.std.proofs.Common.{ℕ, ◌+◌, ◌<◌, ◌≤◌, List, [], ◌∷◌, length, Bool, true, false, arith}
use Rattle.std.specs.Prelude.{map, bytes_eq, if◌then◌else◌}
use Rattle.std.specs.List.{zip, AllByRecursion}
use Rattle.std.proofs.lemmas.List.{length-map}
use Rattle.qtl_syntax.specs.Faults.{SpellsWithin}
use Rattle.qtl_syntax.specs.Tree.{Text, Formula, True, False, Atom, Not, And, Or, Implies, Iff, Prev, Since, TimedSince, Once, TimedOnce, Always, TimedAlways, Interval, Exists, Forall, Item, Pred, Prop}
use Rattle.qtl_truth.specs.declared.numbered_atom.AtomTerm.{AtomTerm}
use Rattle.qtl_truth.specs.declared.numbered_atom.AtomTerm.TheVariants as number
use Rattle.wellformed.specs.CoreTree.{CoreFormula}
use Rattle.wellformed.specs.Expansion.{quantifiers_in, call_quantifiers, quantifiers, Names, numbered_term, expanded, called, expanded_props}
use Rattle.wellformed.specs.Faults.{body_of}
use Rattle.wellformed.specs.Terms.{HasFewTerms}
use Rattle.wellformed.proofs.Spelled.{weight, short_bodies}

-- the item's formula has few nodes and terms
abbrev IsLight : Item → Type 0
IsLight one = weight (body_of one) ≤ 1048576

-- a call of few terms brings atoms of few terms
FewKept : (Text → List AtomTerm → ℕ → CoreFormula) → Type 0
FewKept call = (name : Text) (terms : List AtomTerm) (next : ℕ) → length terms < 4294967296 → HasFewTerms (call name terms next)

module _ (call : Text → List AtomTerm → ℕ → CoreFormula) (count : Text → ℕ) (kept : FewKept call) where
  few_in : (f : Formula) (names : Names) (next : ℕ) → weight f ≤ 1048576 → HasFewTerms (expanded call count names next f)
  unfolding FewKept
  few_in True names next h = tt
  few_in False names next h = tt
  few_in (Atom name ts) names next h =
      kept name (map (numbered_term names) ts) next (let e = length-map ts (numbered_term names) in omega (arith, h, e))
  few_in (Not f) names next h = few_in f names next (omega (arith, h))
  few_in (And f g) names next h = (few_in f names next (omega (arith, h)), few_in g names (next + quantifiers_in count f) (omega (arith, h)))
  few_in (Or f g) names next h = (few_in f names next (omega (arith, h)), few_in g names (next + quantifiers_in count f) (omega (arith, h)))
  few_in (Implies f g) names next h = (few_in f names next (omega (arith, h)), few_in g names (next + quantifiers_in count f) (omega (arith, h)))
  few_in (Iff f g) names next h = (few_in f names next (omega (arith, h)), few_in g names (next + quantifiers_in count f) (omega (arith, h)))
  few_in (Prev f) names next h = few_in f names next (omega (arith, h))
  few_in (Since f g) names next h = (few_in f names next (omega (arith, h)), few_in g names (next + quantifiers_in count f) (omega (arith, h)))
  few_in (TimedSince b f g) names next h = (few_in f names next (omega (arith, h)), few_in g names (next + quantifiers_in count f) (omega (arith, h)))
  few_in (Once f) names next h = few_in f names next (omega (arith, h))
  few_in (TimedOnce b f) names next h = few_in f names next (omega (arith, h))
  few_in (Always f) names next h = few_in f names next (omega (arith, h))
  few_in (TimedAlways b f) names next h = few_in f names next (omega (arith, h))
  few_in (Interval f g) names next h = (few_in f names next (omega (arith, h)), few_in g names (next + quantifiers_in count f) (omega (arith, h)))
  few_in (Exists x f) names next h = few_in f ((x, number.Variable next) ∷ names) (next + 1) (omega (arith, h))
  few_in (Forall x f) names next h = few_in f ((x, number.Variable next) ∷ names) (next + 1) (omega (arith, h))

few_by : (b : Bool) (F G : CoreFormula) → HasFewTerms F → HasFewTerms G → HasFewTerms (if b then F else G)
few_by true F G p q = p
few_by false F G p q = q

few_kept : (before : List Item) → AllByRecursion IsLight before → FewKept (called before)
unfolding FewKept
few_kept [] all name terms next few = few
few_kept (Prop p body ∷ before) all name terms next few = few_kept before all.1 name terms next few
few_kept (Pred p params body ∷ before) all name terms next few =
    few_by (bytes_eq p name) _ _ (few_in (called before) (call_quantifiers before) (few_kept before all.1) body (zip params terms) next all.0)
    (few_kept before all.1 name terms next few)

few_props : (before items : List Item) (next : ℕ) → AllByRecursion IsLight before → AllByRecursion IsLight items →
    AllByRecursion (λ p. HasFewTerms p.1) (expanded_props before next items)
few_props before [] next light all = tt
few_props before (Pred p params body ∷ items) next light all = few_props (Pred p params body ∷ before) items next (all.0, light) all.1
few_props before (Prop name body ∷ items) next light all = (
  few_in (called before) (call_quantifiers before) (few_kept before light) body [] next all.0,
  few_props (Prop name body ∷ before) items (next + quantifiers before body) (all.0, light) all.1,
)

-- a text of at most 2^20 bytes spells properties of few terms
pub short_terms : (text : Text) (items : List Item) → length text ≤ 1048576 → SpellsWithin text items → AllByRecursion (λ p. HasFewTerms p.1) (expanded_props [] 0 items)
short_terms text items l s = few_props [] items 0 tt (short_bodies text items l s)
