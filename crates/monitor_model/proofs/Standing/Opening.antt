-- A new monitor stands for the first 0 events of each log.
use Rattle.std.proofs.Common.{◌≡◌, ℕ, ◌-◌, ◌≤◌, ◌↔◌, refl, sym, subst, arith, List, [], Bool, Some, IsTrue}
use Rattle.std.specs.Prelude.{slice_get}
use Rattle.qtl_truth.specs.declared.event.Event.{Event}
use Rattle.wellformed.specs.CoreTree.{CoreFormula}
use Rattle.subformulas.specs.Assigned.{Texts}
use Rattle.subformulas.specs.Memory.{is_temporal, IsTemporal, Memo}
use Rattle.subformulas.specs.Pinned.{fresh}
use Rattle.subformulas.specs.Unfolded.{formula_at, formula_with}
use Rattle.subformulas.specs.declared.table.Kind.{Kind}
use Rattle.subformulas.specs.declared.table.Kind.TheVariants as kind
use Rattle.subformulas.specs.declared.table.Sub.{Sub}
use Rattle.subformulas.proofs.Unfold.{unfolds, by_some}
use Rattle.value_codes.specs.Pairs.{Pairs}
use Rattle.node_tree.specs.Tree.{Tree, value}
use Rattle.monitor_model.specs.Setting.{Setting}
use Rattle.monitor_model.specs.Drawn.{Draws, age_at, readings}
use Rattle.monitor_model.specs.Laws.{first_memory, AreFirst}
use Rattle.monitor_model.specs.Stands.{IsPlan, IsRemembered, StandsFor}
use Rattle.monitor_model.proofs.Drawing.Connectives.{never}

-- before the first event what is remembered is false, and that of H true
memo_first : (K : Kind) (f g : CoreFormula) (log : List Event) (mu : Texts) (a : ℕ) →
    IsTrue (is_temporal K) →
    IsTrue (value (first_memory K) []) ↔ Memo log (formula_with K f g) mu 0 a
memo_first kind.Prev f g log mu a h = (λ x. never x, λ v. let one = v.0 in absurd (omega arith))
memo_first kind.Since f g log mu a h = (λ x. never x, λ (j, p, q, r). absurd (omega arith))
memo_first kind.Once f g log mu a h = (λ x. never x, λ (j, p, q, r). absurd (omega arith))
memo_first kind.Interval f g log mu a h = (λ x. never x, λ (j, p, q, r). absurd (omega arith))
memo_first kind.Always f g log mu a h = (λ x j p q. absurd (omega arith), λ v. refl)
memo_first (kind.SinceAtMost n) f g log mu a h =
    (λ x. never x, λ (small, (j, p, q, r), each). absurd (omega arith))
memo_first (kind.OnceAtMost n) f g log mu a h =
    (λ x. never x, λ (small, (j, p, q, r), each). absurd (omega arith))
memo_first (kind.AlwaysAtMost n) f g log mu a h =
    (λ x. never x, λ (small, (j, p, q, r), each). absurd (omega arith))
memo_first (kind.SinceMoreThan n) f g log mu a h =
    (λ x. never x, λ ((j, p, q, r), each). absurd (omega arith))
memo_first (kind.OnceMoreThan n) f g log mu a h =
    (λ x. never x, λ ((j, p, q, r), each). absurd (omega arith))
memo_first (kind.AlwaysMoreThan n) f g log mu a h =
    (λ x. never x, λ ((j, p, q, r), each). absurd (omega arith))
memo_first _ f g log mu a h = absurd (cc)

leaf_first : (K : Kind) (P : List Bool → Type 0) →
    ((b : List Bool) → IsTrue (value (first_memory K) []) ↔ P b) → Draws P (first_memory K)
leaf_first kind.Always P h = record { ordered = tt; reduced = tt; values = h }
leaf_first _ P h = record { ordered = tt; reduced = tt; values = h }

pub open_stands : (s : Setting) (log : List Event) (books : ℕ → Pairs) (memory : ℕ → Tree) →
    IsPlan s → AreFirst s books →
    ((k : ℕ) (u : Sub) → 1 ≤ k → slice_get s.subs (k - 1) ≡ Some u → memory k ≡ first_memory u.kind) → StandsFor s log 0 books memory
open_stands s log books memory plan begun h = record {
  books_are = begun.pins;
  no_more = begun.no_more;
  memory_is = λ k t. at_first k t;
}
  where
    at_first : (k : ℕ) → IsTemporal s.subs k → IsRemembered s log 0 books k (memory k)
    at_first k t =
        let (u, g, temporal) = by_some _ _ t.1 in
        let f = unfolds s.subs k u plan.table t.0 g in
        subst
        (λ (z : CoreFormula). Draws (λ b. Memo log z (readings s books (fresh s.subs log 0) b) 0 (age_at s b)) (memory k))
        (sym f)
        (subst (Draws (λ b. Memo log (formula_with u.kind (formula_at s.subs u.left) (formula_at s.subs u.right)) (readings s books (fresh s.subs log 0) b) 0 (age_at s b))) (sym (h k u t.0 g))
        (leaf_first u.kind _ (λ b. memo_first u.kind _ _ log (readings s books (fresh s.subs log 0) b) (age_at s b) temporal)))
