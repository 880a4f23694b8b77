-- What holds of the `forall` at the top of a formula, and of the formula below them.
use Rattle.std.proofs.Common.{◌≡◌, ◌≢◌, ℕ, zero, suc, ◌-◌, ◌<◌, ◌≤◌, ◌⊎◌, inl, inr, ⊎_elim, refl, sym, ◌∙◌, ap, subst, arith, List, [], ◌∷◌, length, Bool, true, false, Some, IsTrue}
use Rattle.std.specs.Prelude.{nat_eq, slice_get, unwrap_or, ◌||◌}
use Rattle.std.specs.List.{AllByRecursion, list_any}
use Rattle.std.specs.Option.{option_and_then, option_map}
use Rattle.std.proofs.lemmas.Bool.Decides.{eqb_tells}
use Rattle.wellformed.specs.CoreTree.{CoreFormula, True, False, Atom, Not, And, Or, Implies, Iff, Prev, Since, TimedSince, Once, TimedOnce, Always, TimedAlways, Interval, Exists, Forall}
use Rattle.wellformed.specs.Sound.{is_closed}
use Rattle.subformulas.specs.Free.{IsFreeAt, is_free}
use Rattle.subformulas.specs.Table.{Table, IsSound}
use Rattle.subformulas.specs.Unfolded.{formula_at, formula_with}
use Rattle.subformulas.specs.declared.table.Kind.{Kind}
use Rattle.subformulas.specs.declared.table.Kind.TheVariants as kind
use Rattle.subformulas.specs.declared.table.Sub.{Sub}
use Rattle.subformulas.proofs.Deepest.{free_among}
use Rattle.subformulas.proofs.Unfold.{get_some, unfolds}
use Rattle.node_tree.specs.Levels.{IsInBlock}
use Rattle.node_tree.specs.Tree.{Tree}
use Rattle.monitor_model.specs.Setting.{Setting, first_of}
use Rattle.monitor_model.specs.Shape.{HasOwnLevels, IsOwnLevel}
use Rattle.monitor_model.proofs.Shapes.Levels.{weaker_levels}
use Rattle.report.specs.Witness.{below_chain, chain}
use Rattle.witness.specs.Finding.{below_forall, next_below, row_below}
use Rattle.witness.specs.Turns.{HasTurns, IsLevelOf}
use Rattle.witness.proofs.ChainRows.{IsOther, below_done, chain_done, chain_on, child, later_greater, variable_known}
use Rattle.witness.proofs.Showing.Over.{Ascends, IsOneOf}

cases_kind : (k : Kind) → ((x : ℕ) × (k ≡ kind.Forall x)) ⊎ IsOther k
cases_kind kind.True = inr (λ y e. let no : ⊥ = cc in no)
cases_kind kind.False = inr (λ y e. let no : ⊥ = cc in no)
cases_kind (kind.Atom a) = inr (λ y e. let no : ⊥ = cc in no)
cases_kind kind.Not = inr (λ y e. let no : ⊥ = cc in no)
cases_kind kind.And = inr (λ y e. let no : ⊥ = cc in no)
cases_kind kind.Or = inr (λ y e. let no : ⊥ = cc in no)
cases_kind kind.Implies = inr (λ y e. let no : ⊥ = cc in no)
cases_kind kind.Iff = inr (λ y e. let no : ⊥ = cc in no)
cases_kind (kind.Exists x) = inr (λ y e. let no : ⊥ = cc in no)
cases_kind kind.Prev = inr (λ y e. let no : ⊥ = cc in no)
cases_kind kind.Since = inr (λ y e. let no : ⊥ = cc in no)
cases_kind kind.Once = inr (λ y e. let no : ⊥ = cc in no)
cases_kind kind.Always = inr (λ y e. let no : ⊥ = cc in no)
cases_kind kind.Interval = inr (λ y e. let no : ⊥ = cc in no)
cases_kind (kind.SinceAtMost n) = inr (λ y e. let no : ⊥ = cc in no)
cases_kind (kind.SinceMoreThan n) = inr (λ y e. let no : ⊥ = cc in no)
cases_kind (kind.OnceAtMost n) = inr (λ y e. let no : ⊥ = cc in no)
cases_kind (kind.OnceMoreThan n) = inr (λ y e. let no : ⊥ = cc in no)
cases_kind (kind.AlwaysAtMost n) = inr (λ y e. let no : ⊥ = cc in no)
cases_kind (kind.AlwaysMoreThan n) = inr (λ y e. let no : ⊥ = cc in no)
cases_kind (kind.Forall x) = inl (x, refl)

below_with : (k : Kind) (f g : CoreFormula) → IsOther k → below_chain (formula_with k f g) ≡ formula_with k f g
below_with kind.True f g h = refl
below_with kind.False f g h = refl
below_with (kind.Atom a) f g h = refl
below_with kind.Not f g h = refl
below_with kind.And f g h = refl
below_with kind.Or f g h = refl
below_with kind.Implies f g h = refl
below_with kind.Iff f g h = refl
below_with (kind.Exists x) f g h = refl
below_with kind.Prev f g h = refl
below_with kind.Since f g h = refl
below_with kind.Once f g h = refl
below_with kind.Always f g h = refl
below_with kind.Interval f g h = refl
below_with (kind.SinceAtMost n) f g h = refl
below_with (kind.SinceMoreThan n) f g h = refl
below_with (kind.OnceAtMost n) f g h = refl
below_with (kind.OnceMoreThan n) f g h = refl
below_with (kind.AlwaysAtMost n) f g h = refl
below_with (kind.AlwaysMoreThan n) f g h = refl
below_with (kind.Forall x) f g h = absurd (h x refl)

-- row b is that of the formula below the `forall` of row k
pub record IsBelow (t : Table) (k b : ℕ) : Type 0 where
  pub ascends : Ascends (chain (formula_at t.subs k))
  pub known : AllByRecursion (λ x. x < length t.variables) (chain (formula_at t.subs k))
  pub body : formula_at t.subs b ≡ below_chain (formula_at t.subs k)
  pub from : 1 ≤ b
  pub to : b ≤ length t.subs

module _ (t : Table) (sound : IsSound t) where
  below_here : (k : ℕ) (u : Sub) → 1 ≤ k → k ≤ length t.subs → slice_get t.subs (k - 1) ≡ Some u → IsOther u.kind → (b : ℕ) → k ≡ b → IsBelow t k b
  below_here k u from to at other b same =
      let none = chain_done t sound k u from at other in
      let is = unfolds t.subs k u sound.table from at in
      subst (IsBelow t k) same (record {
        ascends = subst Ascends (sym none) tt;
        known = subst (AllByRecursion (λ x. x < length t.variables)) (sym none) tt;
        body = is ∙ sym (ap below_chain is ∙ below_with u.kind (formula_at t.subs u.left) (formula_at t.subs u.right) other);
        from = from;
        to = to;
      })

  below_there : (k : ℕ) (u : Sub) → 1 ≤ k → slice_get t.subs (k - 1) ≡ Some u → (x : ℕ) → u.kind ≡ kind.Forall x → (b : ℕ) → IsBelow t u.left b → IsBelow t k b
  below_there k u from at x is_forall b below =
      let on = chain_on t sound k u from at x is_forall in
      let is = unfolds t.subs k u sound.table from at in
      record {
        ascends = subst Ascends (sym on) (later_greater t sound k u from at x is_forall, below.ascends);
        known = subst (AllByRecursion (λ y. y < length t.variables)) (sym on) (variable_known t sound k u from at x is_forall, below.known);
        body = below.body ∙ sym (ap below_chain is ∙ ap (λ c. below_chain (formula_with c (formula_at t.subs u.left) (formula_at t.subs u.right))) is_forall);
        from = below.from;
        to = below.to;
      }

  pub is_below : (looks k : ℕ) → 1 ≤ k → k ≤ length t.subs → k ≤ looks → IsBelow t k (row_below t.subs looks k)
  is_below zero k from to l = absurd (omega (arith, from, l))
  is_below (suc looks) k from to l = by_row (get_some t.subs (k - 1) (omega (arith, from, to))) (is_below looks)
    where
      by_kind : (u : Sub) → slice_get t.subs (k - 1) ≡ Some u → ((x : ℕ) × (u.kind ≡ kind.Forall x)) ⊎ IsOther u.kind →
          ((j : ℕ) → 1 ≤ j → j ≤ length t.subs → j ≤ looks → IsBelow t j (row_below t.subs looks j)) → IsBelow t k (row_below t.subs (suc looks) k)
      by_kind u at (inr other) more = below_here k u from to at other (row_below t.subs (suc looks) k) (below_done t sound k u from at (suc looks) other)
      by_kind u at (inl (x, is_forall)) more =
          let row = child t sound k u from at x is_forall in
          let less = row.1 in
          let next : next_below t.subs k ≡ Some u.left =
          ap (option_and_then (λ s. below_forall s.kind s.left)) at ∙ ap (λ c. below_forall c u.left) is_forall in
          below_there k u from at x is_forall (row_below t.subs (suc looks) k)
          (subst (IsBelow t u.left) (sym (ap (λ o. unwrap_or (option_map (row_below t.subs looks) o) k) next)) (more u.left row.0 (omega (arith, less, to)) (omega (arith, less, l))))

      by_row : (u : Sub) × (slice_get t.subs (k - 1) ≡ Some u) →
          ((j : ℕ) → 1 ≤ j → j ≤ length t.subs → j ≤ looks → IsBelow t j (row_below t.subs looks j)) → IsBelow t k (row_below t.subs (suc looks) k)
      by_row (u, at) more = by_kind u at (cases_kind u.kind) more

-- Free variables below the chain

or_cases : (b c : Bool) → IsTrue (b || c) → IsTrue b ⊎ IsTrue c
or_cases true c h = inl refl
or_cases false c h = inr h

-- each is one of the chain, where the formula is closed
chain_free : (f : CoreFormula) (vs : List ℕ) → IsTrue (is_closed vs f) → (y : ℕ) → IsTrue (is_free y (below_chain f)) → IsTrue (list_any (λ w. nat_eq w y) vs) ⊎ IsOneOf (chain f) y
chain_free (Forall x f) vs c y h = ⊎_elim (λ a. by_either (or_cases (nat_eq x y) (list_any (λ w. nat_eq w y) vs) a) (eqb_tells x y)) (λ a. inr (inr a)) (chain_free f (x ∷ vs) c y h)
  where
    by_either : IsTrue (nat_eq x y) ⊎ IsTrue (list_any (λ w. nat_eq w y) vs) → ((nat_eq x y ≡ true) × (x ≡ y)) ⊎ ((nat_eq x y ≡ false) × (x ≢ y)) →
        IsTrue (list_any (λ w. nat_eq w y) vs) ⊎ ((x ≡ y) ⊎ IsOneOf (chain f) y)
    by_either (inr a) e = inl a
    by_either (inl a) (inl e) = inr (inl e.1)
    by_either (inl a) (inr e) = let no : true ≡ false = sym a ∙ e.0 in absurd (let impossible : ⊥ = cc in impossible)
chain_free True vs c y h = inl (free_among True vs c y h)
chain_free False vs c y h = inl (free_among False vs c y h)
chain_free (Atom a) vs c y h = inl (free_among (Atom a) vs c y h)
chain_free (Not f) vs c y h = inl (free_among (Not f) vs c y h)
chain_free (And f g) vs c y h = inl (free_among (And f g) vs c y h)
chain_free (Or f g) vs c y h = inl (free_among (Or f g) vs c y h)
chain_free (Implies f g) vs c y h = inl (free_among (Implies f g) vs c y h)
chain_free (Iff f g) vs c y h = inl (free_among (Iff f g) vs c y h)
chain_free (Prev f) vs c y h = inl (free_among (Prev f) vs c y h)
chain_free (Since f g) vs c y h = inl (free_among (Since f g) vs c y h)
chain_free (TimedSince b f g) vs c y h = inl (free_among (TimedSince b f g) vs c y h)
chain_free (Once f) vs c y h = inl (free_among (Once f) vs c y h)
chain_free (TimedOnce b f) vs c y h = inl (free_among (TimedOnce b f) vs c y h)
chain_free (Always f) vs c y h = inl (free_among (Always f) vs c y h)
chain_free (TimedAlways b f) vs c y h = inl (free_among (TimedAlways b f) vs c y h)
chain_free (Interval f g) vs c y h = inl (free_among (Interval f g) vs c y h)
chain_free (Exists x f) vs c y h = inl (free_among (Exists x f) vs c y h)

pub free_in_chain : (f : CoreFormula) → IsTrue (is_closed [] f) → (y : ℕ) → IsTrue (is_free y (below_chain f)) → IsOneOf (chain f) y
free_in_chain f c y h = ⊎_elim (λ a. absurd (let no : ⊥ = cc in no)) (λ a. a) (chain_free f [] c y h)

level_of : (s : Setting) (xs : List ℕ) (x l : ℕ) → IsOneOf xs x → IsInBlock (first_of s x) s.bits l → IsLevelOf s xs l
level_of s [] x l h at = absurd h
level_of s (y ∷ xs) x l (inl e) at = inl (subst (λ (z : ℕ). IsInBlock (first_of s z) s.bits l) (sym e) at)
level_of s (y ∷ xs) x l (inr h) at = inr (level_of s xs x l h at)

-- the levels of the tree of the formula below the chain are those of the chain's variables
pub own_turns : (s : Setting) (t : Table) → s.subs ≡ t.subs → (k b : ℕ) (tree : Tree) → IsTrue (is_closed [] (formula_at t.subs k)) → formula_at t.subs b ≡ below_chain (formula_at t.subs k) →
    HasOwnLevels s b tree → HasTurns s (chain (formula_at t.subs k)) tree
own_turns s t same k b tree closed body levels =
    weaker_levels (IsOwnLevel s b) (IsLevelOf s (chain (formula_at t.subs k)))
    (λ l (x, free, at). level_of s (chain (formula_at t.subs k)) x l
    (free_in_chain (formula_at t.subs k) closed x (subst (λ f. IsTrue (is_free x f)) body (subst (λ subs. IsFreeAt subs b x) same free))) at) tree levels
