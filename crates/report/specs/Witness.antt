-- The rule of witnesses: what is shown of a property that is false at an event. The variables that
-- are shown are those of the `forall` at its top. Each is shown as any text, where a text that the
-- log doesn't have can be extended to texts that make the formula below them false; else as the
-- least text that can.
use Rattle.std.specs.Prelude.{◌≡◌, ℕ, List, [], ◌∷◌, Bool, true, Some, slice_get}
use Rattle.std.specs.Cmp.Lexicographic.{slice_cmp}
use Rattle.std.specs.Option.{option_map}
use Rattle.std.specs.Ordering.{is_lt, nat_cmp}
use Rattle.qtl_syntax.specs.Tree.{Text}
use Rattle.qtl_truth.specs.Truth.{IsText}
use Rattle.qtl_truth.specs.declared.event.Event.{Event}
use Rattle.wellformed.specs.CoreTree.{CoreFormula, Forall}
use Rattle.subformulas.specs.Assigned.{Texts, put, Truth}
use Rattle.subformulas.specs.Pinned.{fresh, marks}
use Rattle.subformulas.specs.Table.{Table}
use Rattle.subformulas.specs.Texts.{Has}
use Rattle.subformulas.specs.Unfolded.{formula_at}
use Rattle.report.specs.declared.shown.Shown.{Shown}
use Rattle.report.specs.declared.shown.Value.{Value}
use Rattle.report.specs.declared.shown.Value.TheVariants.{Any, Known}

-- the variables of the `forall` at the top of a formula, the outermost first
abbrev pub chain : CoreFormula → List ℕ
chain (Forall x f) = x ∷ chain f
chain _ = []

-- the formula below them
abbrev pub below_chain : CoreFormula → CoreFormula
below_chain (Forall x f) = below_chain f
below_chain f = f

-- whether a stands before b in the order of bytes
abbrev pub is_before : (a b : Text) → Bool
is_before a b = is_lt (slice_cmp nat_cmp a b)

-- of the texts of which P holds, t is the least
abbrev pub IsLeast : (P : Text → Type 0) → Text → Type 0
IsLeast P t = P t × ((u : Text) → P u → ¬ (is_before u t ≡ true))

module _ (t : Table) (log : List Event) (i : ℕ) where
  -- some texts for these variables make the formula false at event i
  abbrev pub CanFail : List ℕ → CoreFormula → Texts → Type 0
  CanFail [] f nu = ¬ Truth log f nu i
  CanFail (x ∷ later) f nu = (u : Text) × IsText u × CanFail later f (put x u nu)

  -- what is shown for x, and which text is chosen for it: one that the log doesn't have, or the
  -- least of the log's that can be extended by texts for the later variables
  abbrev pub IsShown : (x : ℕ) (later : List ℕ) → CoreFormula → Texts → Value → Text → Type 0
  IsShown x later f nu Any choice =
      (choice ≡ fresh t.subs log i) × CanFail later f (put x choice nu)
  IsShown x later f nu (Known text) choice =
      (choice ≡ text) × (¬ CanFail later f (put x (fresh t.subs log i) nu)) ×
      IsLeast (λ u. Has (marks t.subs log i x) u × CanFail later f (put x u nu)) text

  -- these are shown for the variables, in order; what was chosen for one stays for the later ones
  abbrev pub AreShown : List ℕ → CoreFormula → Texts → List Shown → Type 0
  AreShown [] f nu shown = shown ≡ []
  AreShown (x ∷ later) f nu [] = ⊥
  AreShown (x ∷ later) f nu (s ∷ shown) =
      (option_map (λ v. v.name) (slice_get t.variables x) ≡ Some s.name) ×
      (choice : Text) × IsShown x later f nu s.value choice ×
      AreShown later f (put x choice nu) shown

  -- this is the witness of the property whose formula has number k
  abbrev pub IsWitness : (k : ℕ) → List Shown → Type 0
  IsWitness k shown =
      AreShown (chain (formula_at t.subs k)) (below_chain (formula_at t.subs k)) (λ x. []) shown
