-- Along the `forall` at the top: what is shown, and what is left.
use Rattle.std.proofs.Common.{◌≡◌, ℕ, ◌+◌, ◌-◌, ◌*◌, ◌≤◌, sym, ◌∙◌, ap, subst, arith, List, [], ◌∷◌, ◌++◌, length, Some, append_assoc}
use Rattle.std.specs.Prelude.{slice_get}
use Rattle.subformulas.specs.Table.{IsSound}
use Rattle.subformulas.specs.Unfolded.{formula_at}
use Rattle.subformulas.specs.declared.table.Kind.TheVariants as kind
use Rattle.subformulas.specs.declared.table.Sub.{Sub}
use Rattle.node_tree.specs.Tree.{Tree, IsOrdered, IsOrderedFrom, IsReduced}
use Rattle.monitor_model.specs.Setting.{first_of}
use Rattle.monitor_model.specs.State.{State, pairs_in, setting_of}
use Rattle.report.specs.Witness.{chain}
use Rattle.report.specs.declared.shown.Shown.{Shown}
use Rattle.witness.specs.Finding.{code_for, left_over, name_of, ones, shown_over, value_over}
use Rattle.witness.specs.Turns.{HasTurns}
use Rattle.witness.proofs.ChainRows.{chain_on, cost_more, later_greater}
use Rattle.witness.proofs.Descending.{turns_first, turns_later}

module _ (m : State) (sound : IsSound m.plan) (k : ℕ) (u : Sub) (from : 1 ≤ k) (at : slice_get m.plan.subs (k - 1) ≡ Some u) (x : ℕ) (is_forall : u.kind ≡ kind.Forall x) where
  turns_here : (tree : Tree) → HasTurns (setting_of m) (chain (formula_at m.plan.subs k)) tree → HasTurns (setting_of m) (x ∷ chain (formula_at m.plan.subs u.left)) tree
  turns_here tree = subst (λ xs. HasTurns (setting_of m) xs tree) (chain_on m.plan sound k u from at x is_forall)

  pub first_turn : (tree : Tree) → IsOrdered tree → HasTurns (setting_of m) (chain (formula_at m.plan.subs k)) tree → IsOrderedFrom (first_of (setting_of m) x) tree
  first_turn tree o turns =
      turns_first (setting_of m) x (chain (formula_at m.plan.subs u.left)) tree (later_greater m.plan sound k u from at x is_forall) o (turns_here tree turns)

  pub later_turns : (tree rest : Tree) → IsOrdered tree → IsReduced tree → HasTurns (setting_of m) (chain (formula_at m.plan.subs k)) tree → rest ≡ left_over m x tree →
      HasTurns (setting_of m) (chain (formula_at m.plan.subs u.left)) rest
  later_turns tree rest o r turns is =
      subst (HasTurns (setting_of m) (chain (formula_at m.plan.subs u.left))) (sym is)
      (turns_later (setting_of m) x (code_for (ones m) (pairs_in m x) (value_over m x tree)) (chain (formula_at m.plan.subs u.left)) tree
      (first_turn tree o turns) r (turns_here tree turns))

  pub shown_more : (before between after : List Shown) (tree rest : Tree) → rest ≡ left_over m x tree →
      between ≡ before ++ record { name = name_of m x; value = value_over m x tree } ∷ [] →
      after ≡ between ++ shown_over m (chain (formula_at m.plan.subs u.left)) rest →
      after ≡ before ++ shown_over m (chain (formula_at m.plan.subs k)) tree
  shown_more before between after tree rest is first later =
      later
      ∙ (ap (λ b. b ++ shown_over m (chain (formula_at m.plan.subs u.left)) rest) first
      ∙ (append_assoc before (record { name = name_of m x; value = value_over m x tree } ∷ []) (shown_over m (chain (formula_at m.plan.subs u.left)) rest)
      ∙ (ap (λ t. before ++ record { name = name_of m x; value = value_over m x tree } ∷ shown_over m (chain (formula_at m.plan.subs u.left)) t) is
      ∙ ap (λ xs. before ++ shown_over m xs tree) (sym (chain_on m.plan sound k u from at x is_forall)))))

  pub cost_on : (bound first second third : ℕ) → second ≤ first + bound → third ≤ second + length (chain (formula_at m.plan.subs u.left)) * bound →
      third ≤ first + length (chain (formula_at m.plan.subs k)) * bound
  cost_on bound first second third h l =
      subst (λ xs. third ≤ first + length xs * bound) (sym (chain_on m.plan sound k u from at x is_forall))
      (cost_more bound (length (chain (formula_at m.plan.subs u.left))) first second third h l)

  pub cost_first : (bound first second : ℕ) → second ≤ first + bound → second ≤ first + length (chain (formula_at m.plan.subs k)) * bound
  cost_first bound first second h = cost_on bound first second second h (omega arith)
