-- What `find` gives: a function of the monitor alone.
use Rattle.std.specs.Prelude.{ℕ, zero, suc, ◌-◌, ◌^◌, List, [], ◌∷◌, Option, Some, None, if◌then◌else◌, slice_get, unwrap_or}
use Rattle.std.specs.Option.{option_and_then, option_map}
use Rattle.qtl_syntax.specs.Tree.{Text}
use Rattle.subformulas.specs.Unfolded.{formula_at}
use Rattle.subformulas.specs.declared.table.Kind.{Kind}
use Rattle.subformulas.specs.declared.table.Kind.TheVariants as kind
use Rattle.subformulas.specs.declared.table.Sub.{Sub}
use Rattle.node_tree.specs.Tree.{Tree}
use Rattle.bdd_ops.specs.Reading.{set_block}
use Rattle.value_codes.specs.Pairs.{Pairs, code_of}
use Rattle.monitor_model.specs.Setting.{first_of}
use Rattle.monitor_model.specs.State.{State, is_one, now_of, pairs_in, setting_of}
use Rattle.report.specs.Witness.{chain}
use Rattle.report.specs.declared.shown.Shown.{Shown}
use Rattle.report.specs.declared.shown.Value.{Value}
use Rattle.report.specs.declared.shown.Value.TheVariants.{Any, Known}
use Rattle.witness.specs.Least.{least_failing}

-- a text that there may be; where there is none, any
abbrev pub value_of : Option Text → Value
value_of None = Any
value_of (Some t) = Known t

-- the code of what is shown; that of all ones where that is any text
abbrev pub code_for : (ones : ℕ) → Pairs → Value → ℕ
code_for ones pairs Any = ones
code_for ones pairs (Known t) = unwrap_or (code_of pairs t) ones

-- the row below a `forall`; none below another kind
abbrev pub below_forall : Kind → (left : ℕ) → Option ℕ
below_forall (kind.Forall x) left = Some left
below_forall _ left = None

-- by a table of subformulas
module _ (subs : List Sub) where
  -- the row below row k, where that is a `forall`
  abbrev pub next_below : (k : ℕ) → Option ℕ
  next_below k = option_and_then (λ s. below_forall s.kind s.left) (slice_get subs (k - 1))

  -- the row below all `forall` at the top of row k, of which so many are looked at
  abbrev pub row_below : (looks k : ℕ) → ℕ
  row_below zero k = k
  row_below (suc looks) k = unwrap_or (option_map (row_below looks) (next_below k)) k

module _ (m : State) where
  abbrev pub ones : ℕ
  ones = 2 ^ m.bits - 1

  -- a tree with the bits of variable x set to a code
  abbrev pub with_code_of : (x code : ℕ) → Tree → Tree
  with_code_of x code tree = set_block (first_of (setting_of m) x) m.bits code tree

  -- what is shown for x over a tree: any text where all ones leave a tree other than true, which is
  -- what a text without a code reads as; else the least text whose code does
  abbrev pub value_over : (x : ℕ) → Tree → Value
  value_over x tree =
      if is_one (with_code_of x ones tree) then
      value_of (least_failing (first_of (setting_of m) x) m.bits tree (pairs_in m x))
      else Any

  -- the tree that is left for the later variables
  abbrev pub left_over : (x : ℕ) → Tree → Tree
  left_over x tree = with_code_of x (code_for ones (pairs_in m x) (value_over x tree)) tree

  -- the name of variable x
  abbrev pub name_of : ℕ → Text
  name_of x = unwrap_or (option_map (λ v. v.name) (slice_get m.plan.variables x)) []

  -- what is shown for these variables over a tree
  abbrev pub shown_over : List ℕ → Tree → List Shown
  shown_over [] tree = []
  shown_over (x ∷ later) tree =
      record { name = name_of x; value = value_over x tree } ∷ shown_over later (left_over x tree)

  -- what is shown of the property whose formula has number k: a row stands behind those below it,
  -- so k looks suffice
  abbrev pub witness_of : (k : ℕ) → List Shown
  witness_of k =
      shown_over (chain (formula_at m.plan.subs k)) (now_of m (row_below m.plan.subs k k))
