-- The properties of a specification, and their verdicts over a log.
use Rattle.std.specs.Prelude.{◌≡◌, ℕ, ◌+◌, ◌≤◌, List, [], ◌∷◌, length, map, Bool, get_or}
use Rattle.std.specs.List.{list_any}
use Rattle.qtl_syntax.specs.Tree.{Text, Formula, Item, Pred, Prop}
use Rattle.qtl_truth.specs.declared.event.Event.{Event}
use Rattle.qtl_truth.specs.Truth.{Holds}
use Rattle.wellformed.specs.Expansion.{expanded_props}
use Rattle.wellformed.specs.Timed.{has_timed}
use Rattle.subformulas.specs.Table.{Table}
use Rattle.subformulas.specs.declared.table.PlanProp.{PlanProp}
use Rattle.report.specs.Verdicts.{Verdict, True, False}
use Rattle.report.specs.Witness.{IsWitness}
use Rattle.run_model.specs.Limits.{plan_in}

-- a property, with the items before it, the latest first: its macros are among them
pub record Property : Type 0 where
  pub before : List Item
  pub name : Text
  pub formula : Formula

-- the properties of items, in order, behind these items
abbrev pub properties_behind : List Item → List Item → List Property
properties_behind before [] = []
properties_behind before (Pred name params body ∷ items) =
    properties_behind (Pred name params body ∷ before) items
properties_behind before (Prop name body ∷ items) =
    record { before = before; name = name; formula = body }
    ∷ properties_behind (Prop name body ∷ before) items

abbrev pub properties : List Item → List Property
properties items = properties_behind [] items

abbrev pub names : List Property → List Text
names ps = map (λ p. p.name) ps

-- A property has a bound on time, once its macros are expanded. The log is then read with times.
abbrev pub is_timed : List Item → Bool
is_timed items = list_any (λ p. has_timed p.1) (expanded_props [] 0 items)

-- the property is true at an event of the log
abbrev pub IsTrueAt : List Event → ℕ → Property → Type 0
IsTrueAt log i p = Holds p.before log i [] p.formula

-- the verdict on a property at event i: where it is false, with its witness. q has the number of
-- its formula in the plan
abbrev pub IsVerdict : Table → List Event → ℕ → Property → PlanProp → Verdict → Type 0
IsVerdict plan log i p q True = IsTrueAt log i p
IsVerdict plan log i p q (False witness) =
    (¬ IsTrueAt log i p) × IsWitness plan log i q.root witness

-- a verdict for each property
abbrev pub IsRow : Table → List Event → ℕ → List Property → List PlanProp → List Verdict → Type 0
IsRow plan log i [] [] [] = Unit {0}
IsRow plan log i (p ∷ ps) (q ∷ qs) (v ∷ row) =
    IsVerdict plan log i p q v × IsRow plan log i ps qs row
IsRow plan log i _ _ _ = ⊥

-- a row of verdicts for each event, on the properties of these items
pub record AreVerdicts (log : List Event) (items : List Item) (rows : List (List Verdict))
    : Type 0 where
  pub count : length rows ≡ length log
  pub each : (i : ℕ) → i + 1 ≤ length log →
      IsRow (plan_in items) log (i + 1) (properties items) (plan_in items).props (get_or rows i [])
