-- The `forall` at the top of a formula, by its rows.
use Rattle.std.proofs.Common.{◌≡◌, ◌≢◌, ℕ, zero, suc, ◌+◌, ◌-◌, ◌*◌, ◌<◌, ◌≤◌, refl, sym, ◌∙◌, ap, subst, arith, [], ◌∷◌, length, Some, None}
use Rattle.std.specs.Prelude.{slice_get, unwrap_or}
use Rattle.std.specs.List.{AllByRecursion}
use Rattle.std.specs.Option.{option_and_then, option_map}
use Rattle.wellformed.specs.CoreTree.{CoreFormula, True, False, Atom, Not, And, Or, Implies, Iff, Prev, Since, TimedSince, Once, TimedOnce, Always, TimedAlways, Interval, Exists, Forall}
use Rattle.wellformed.specs.Sound.{bound_by}
use Rattle.subformulas.specs.Free.{BindsLater}
use Rattle.subformulas.specs.Table.{Table, IsSound, AreChildren, UsesBelow, children}
use Rattle.subformulas.specs.Unfolded.{formula_at, formula_with}
use Rattle.subformulas.specs.declared.table.Kind.{Kind}
use Rattle.subformulas.specs.declared.table.Kind.TheVariants as kind
use Rattle.subformulas.specs.declared.table.Sub.{Sub}
use Rattle.subformulas.proofs.ByNumber.{all_at}
use Rattle.subformulas.proofs.Unfold.{children_at, unfolds}
use Rattle.report.specs.Witness.{chain}
use Rattle.witness.specs.Finding.{below_forall, next_below, row_below}

-- the variables of the chain are bound in the formula
chain_bound : (P : ℕ → Type 0) (f : CoreFormula) → AllByRecursion P (bound_by f) → AllByRecursion P (chain f)
chain_bound P (Forall x f) h = (h.0, chain_bound P f h.1)
chain_bound P True h = tt
chain_bound P False h = tt
chain_bound P (Atom a) h = tt
chain_bound P (Not f) h = tt
chain_bound P (And f g) h = tt
chain_bound P (Or f g) h = tt
chain_bound P (Implies f g) h = tt
chain_bound P (Iff f g) h = tt
chain_bound P (Prev f) h = tt
chain_bound P (Since f g) h = tt
chain_bound P (TimedSince b f g) h = tt
chain_bound P (Once f) h = tt
chain_bound P (TimedOnce b f) h = tt
chain_bound P (Always f) h = tt
chain_bound P (TimedAlways b f) h = tt
chain_bound P (Interval f g) h = tt
chain_bound P (Exists x f) h = tt

-- a kind that isn't a `forall`
abbrev pub IsOther : Kind → Type 0
IsOther k = (x : ℕ) → k ≢ kind.Forall x

chain_with : (k : Kind) (f g : CoreFormula) → IsOther k → chain (formula_with k f g) ≡ []
chain_with kind.True f g h = refl
chain_with kind.False f g h = refl
chain_with (kind.Atom a) f g h = refl
chain_with kind.Not f g h = refl
chain_with kind.And f g h = refl
chain_with kind.Or f g h = refl
chain_with kind.Implies f g h = refl
chain_with kind.Iff f g h = refl
chain_with (kind.Exists x) f g h = refl
chain_with (kind.Forall x) f g h = absurd (h x refl)
chain_with kind.Prev f g h = refl
chain_with kind.Since f g h = refl
chain_with kind.Once f g h = refl
chain_with kind.Always f g h = refl
chain_with kind.Interval f g h = refl
chain_with (kind.SinceAtMost n) f g h = refl
chain_with (kind.SinceMoreThan n) f g h = refl
chain_with (kind.OnceAtMost n) f g h = refl
chain_with (kind.OnceMoreThan n) f g h = refl
chain_with (kind.AlwaysAtMost n) f g h = refl
chain_with (kind.AlwaysMoreThan n) f g h = refl

none_below : (k : Kind) (left : ℕ) → IsOther k → below_forall k left ≡ None
none_below kind.True left h = refl
none_below kind.False left h = refl
none_below (kind.Atom a) left h = refl
none_below kind.Not left h = refl
none_below kind.And left h = refl
none_below kind.Or left h = refl
none_below kind.Implies left h = refl
none_below kind.Iff left h = refl
none_below (kind.Exists x) left h = refl
none_below (kind.Forall x) left h = absurd (h x refl)
none_below kind.Prev left h = refl
none_below kind.Since left h = refl
none_below kind.Once left h = refl
none_below kind.Always left h = refl
none_below kind.Interval left h = refl
none_below (kind.SinceAtMost n) left h = refl
none_below (kind.SinceMoreThan n) left h = refl
none_below (kind.OnceAtMost n) left h = refl
none_below (kind.OnceMoreThan n) left h = refl
none_below (kind.AlwaysAtMost n) left h = refl
none_below (kind.AlwaysMoreThan n) left h = refl

module _ (t : Table) (sound : IsSound t) (k : ℕ) (u : Sub) (from : 1 ≤ k) (at : slice_get t.subs (k - 1) ≡ Some u) where
  pub chain_done : IsOther u.kind → chain (formula_at t.subs k) ≡ []
  chain_done other = ap chain (unfolds t.subs k u sound.table from at) ∙ chain_with u.kind (formula_at t.subs u.left) (formula_at t.subs u.right) other

  pub below_done : (looks : ℕ) → IsOther u.kind → k ≡ row_below t.subs looks k
  below_done zero other = refl
  below_done (suc looks) other =
      let next : next_below t.subs k ≡ None = ap (option_and_then (λ s. below_forall s.kind s.left)) at ∙ none_below u.kind u.left other in
      sym (ap (λ o. unwrap_or (option_map (row_below t.subs looks) o) k) next)

  module _ (x : ℕ) (is_forall : u.kind ≡ kind.Forall x) where
    pub chain_on : chain (formula_at t.subs k) ≡ x ∷ chain (formula_at t.subs u.left)
    chain_on = ap chain (unfolds t.subs k u sound.table from at) ∙ ap (λ c. chain (formula_with c (formula_at t.subs u.left) (formula_at t.subs u.right))) is_forall

    pub variable_known : x < length t.variables
    variable_known = subst (UsesBelow (length t.variables)) is_forall (all_at (λ s. UsesBelow (length t.variables) s.kind) t.subs (k - 1) u sound.uses at)

    pub later_greater : AllByRecursion (λ y. x < y) (chain (formula_at t.subs u.left))
    later_greater = chain_bound (λ y. x < y) (formula_at t.subs u.left) (subst (λ c. BindsLater t.subs c u.left) is_forall (sound.in_order k u from at))

    pub child : (1 ≤ u.left) × (u.left < k)
    child = (subst (λ c. AreChildren k (children c) u.left u.right) is_forall (children_at t.subs k u sound.table from at)).0

    pub below_on : (looks r : ℕ) → k ≤ looks → ((n : ℕ) → u.left ≤ n → r ≡ row_below t.subs n u.left) → r ≡ row_below t.subs looks k
    below_on zero r l h = absurd (omega (arith, l, from))
    below_on (suc looks) r l h =
        let less = child.1 in
        let next : next_below t.subs k ≡ Some u.left =
        ap (option_and_then (λ s. below_forall s.kind s.left)) at ∙ ap (λ c. below_forall c u.left) is_forall in
        h looks (omega (arith, l, less)) ∙ sym (ap (λ o. unwrap_or (option_map (row_below t.subs looks) o) k) next)

-- what one more variable costs
pub cost_more : (bound n first second third : ℕ) → second ≤ first + bound → third ≤ second + n * bound → third ≤ first + suc n * bound
cost_more bound n first second third h k = let next : suc n * bound ≡ n * bound + bound = omega arith in omega (arith, h, k, next)
