-- The verdict of a property is whether its handle is that of the leaf that is true.
use Rattle.std.proofs.Common.{◌≡◌, ◌≢◌, ℕ, ◌≤◌, ◌⊎◌, ◌↔◌, inl, inr, refl, sym, ap, ◌∙◌, subst, arith, List, [], length, Bool, true, false, Option, Some, None, IsTrue, eqb}
use Rattle.std.specs.Prelude.{slice_get}
use Rattle.std.specs.Option.{option_map}
use Rattle.std.proofs.lemmas.Bool.Decides.{eqb_tells}
use Rattle.qtl_syntax.specs.Tree.{Text}
use Rattle.qtl_truth.specs.declared.event.Event.{Event}
use Rattle.wellformed.specs.CoreTruth.{TrueCore}
use Rattle.wellformed.specs.Sound.{is_closed}
use Rattle.subformulas.specs.declared.table.PlanProp.{PlanProp}
use Rattle.subformulas.specs.Assigned.{texts_in, Truth}
use Rattle.subformulas.specs.Table.{IsClosedProp, HasRoot}
use Rattle.subformulas.specs.Unfolded.{formula_at}
use Rattle.subformulas.proofs.Below.{each_atom_below}
use Rattle.subformulas.proofs.ByNumber.{all_at}
use Rattle.subformulas.proofs.Closed.{IsClosed, closed_is}
use Rattle.subformulas.proofs.FromLists.{in_list, truth_read}
use Rattle.node_tree.specs.Tree.{Tree, Zero, One, Branch}
use Rattle.node_table.specs.Table.{tree_of, IsValid, IsShared}
use Rattle.monitor_model.specs.State.{State, IsMonitor, Stands, is_one, now_of, setting_of, verdict_at}
use Rattle.monitor_step.specs.Monitor.{variables_of}
use Rattle.monitor_model.proofs.Telling.Verdict.{verdict}

root_of : (o : Option PlanProp) (root : ℕ) → option_map (λ q. q.root) o ≡ Some root → (q : PlanProp) × (o ≡ Some q) × (q.root ≡ root)
root_of None root e = absurd (let none : ⊥ = cc in none)
root_of (Some q) root e = (q, refl, cc)

pub verdict_is : (m : State) → IsMonitor m → IsShared m.shelf.table → (p root now one : ℕ) → option_map (λ q. q.root) (slice_get m.plan.props p) ≡ Some root →
    IsValid m.shelf.table now → tree_of m.shelf.table now ≡ now_of m root → IsValid m.shelf.table one → tree_of m.shelf.table one ≡ One → m.has_now ≡ true →
    (log : List Event) (nu : List Text) → Stands m log → variables_of m ≤ length nu → IsTrue (eqb now one) ↔ TrueCore log nu (formula_at m.plan.subs root) (length log)
verdict_is m monitor shared p root now one at valid tree one_valid one_tree judged log nu stands long = by_root (root_of (slice_get m.plan.props p) root at)
  where
    by_root : (q : PlanProp) × (slice_get m.plan.props p ≡ Some q) × (q.root ≡ root) → IsTrue (eqb now one) ↔ TrueCore log nu (formula_at m.plan.subs root) (length log)
    by_root (q, get, same) = by_tree (verdict (setting_of m) log (length log) stands.books root (now_of m root) closed (stands.now judged root within.0 within.1) (texts_in nu)) (eqb_tells now one)
      where
        closed : IsClosed (formula_at m.plan.subs root)
        closed = closed_is (formula_at m.plan.subs root) (subst (λ (k : ℕ). IsTrue (is_closed [] (formula_at m.plan.subs k))) same (all_at (IsClosedProp m.plan.subs) m.plan.props p q monitor.plan.closed get))

        within : (1 ≤ root) × (root ≤ length m.plan.subs)
        within = subst (λ (k : ℕ). (1 ≤ k) × (k ≤ length m.plan.subs)) same (all_at (HasRoot (length m.plan.subs)) m.plan.props p q monitor.plan.roots get)

        reads : TrueCore log nu (formula_at m.plan.subs root) (length log) ↔ Truth log (formula_at m.plan.subs root) (texts_in nu) (length log)
        reads = truth_read log (variables_of m) (formula_at m.plan.subs root) (each_atom_below (variables_of m) m.plan.subs monitor.plan.table monitor.plan.uses root within.0 within.1) nu (texts_in nu) (λ x l. in_list nu x (omega (arith, long, l))) (length log)

        by_tree : ((now_of m root ≡ One) × Truth log (formula_at m.plan.subs root) (texts_in nu) (length log)) ⊎ ((now_of m root ≡ Zero) × (¬ Truth log (formula_at m.plan.subs root) (texts_in nu) (length log))) →
            ((eqb now one ≡ true) × (now ≡ one)) ⊎ ((eqb now one ≡ false) × (now ≢ one)) → IsTrue (eqb now one) ↔ TrueCore log nu (formula_at m.plan.subs root) (length log)
        by_tree (inl h) (inl t) = (λ x. reads.1 h.1, λ x. t.0)
        by_tree (inl h) (inr t) = absurd (t.1 (shared.one_handle now one valid one_valid (tree ∙ (h.0 ∙ sym one_tree))))
        by_tree (inr h) (inl t) = absurd (let no : Zero ≡ One = sym h.0 ∙ (sym tree ∙ (ap (tree_of m.shelf.table) t.1 ∙ one_tree)) in cc)
        by_tree (inr h) (inr t) = (λ x. absurd (let no : true ≡ false = sym x ∙ t.0 in cc), λ x. absurd (h.1 (reads.0 x)))

-- so it is whether the property's tree is that leaf
tree_tells : (t : Tree) → t ≢ One → is_one t ≡ false
tree_tells One other = absurd (other refl)
tree_tells Zero other = refl
tree_tells (Branch level low high) other = refl

handle_tells : (m : State) → IsShared m.shelf.table → (root now one : ℕ) → IsValid m.shelf.table now → tree_of m.shelf.table now ≡ now_of m root → IsValid m.shelf.table one →
    tree_of m.shelf.table one ≡ One → ((eqb now one ≡ true) × (now ≡ one)) ⊎ ((eqb now one ≡ false) × (now ≢ one)) → verdict_at m root ≡ eqb now one
handle_tells m shared root now one valid tree one_valid one_tree (inl t) = ap is_one (sym tree ∙ (ap (tree_of m.shelf.table) t.1 ∙ one_tree)) ∙ sym t.0
handle_tells m shared root now one valid tree one_valid one_tree (inr t) =
    tree_tells (now_of m root) (λ e. t.1 (shared.one_handle now one valid one_valid (tree ∙ (e ∙ sym one_tree)))) ∙ sym t.0

at_root : (m : State) (o : Option PlanProp) (root : ℕ) (v : Bool) → option_map (λ q. q.root) o ≡ Some root → verdict_at m root ≡ v → option_map (λ q. verdict_at m q.root) o ≡ Some v
at_root m None root v at is = absurd (let none : ⊥ = cc in none)
at_root m (Some q) root v at is = let same : q.root ≡ root = cc in ap Some (ap (verdict_at m) same ∙ is)

pub verdict_shown : (m : State) → IsShared m.shelf.table → (p root now one : ℕ) → option_map (λ q. q.root) (slice_get m.plan.props p) ≡ Some root →
    IsValid m.shelf.table now → tree_of m.shelf.table now ≡ now_of m root → IsValid m.shelf.table one → tree_of m.shelf.table one ≡ One →
    option_map (λ q. verdict_at m q.root) (slice_get m.plan.props p) ≡ Some (eqb now one)
verdict_shown m shared p root now one at valid tree one_valid one_tree =
    at_root m (slice_get m.plan.props p) root (eqb now one) at (handle_tells m shared root now one valid tree one_valid one_tree (eqb_tells now one))
