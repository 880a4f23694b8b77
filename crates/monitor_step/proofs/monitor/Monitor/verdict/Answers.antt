use Rattle.std.proofs.Common.{◌≡◌, ℕ, ◌≤◌, ◌∙◌, ◌↔◌, sym, subst, ap, Some, IsTrue, length, true, arith}
use Rattle.std.proofs.lemmas.Bool.Decides.{nat_tests}
use Rattle.std.specs.Prelude.{slice_get, nat_lt}
use Rattle.std.specs.Option.{option_map}
use Rattle.subformulas.specs.declared.table.PlanProp.{PlanProp}
use Rattle.node_tree.specs.Tree.{One}
use Rattle.node_table.specs.Table.{Table, tree_of, IsValid, IsShared}
use Rattle.subformulas.specs.Unfolded.{formula_at}
use Rattle.wellformed.specs.CoreTruth.{TrueCore}
use Rattle.monitor_model.specs.State.{State, IsMonitor, now_of, verdict_at}
use Rattle.monitor_step.proofs.Stepping.Judging.{verdict_is, verdict_shown}
use Rattle.monitor_step.proofs.monitor.Monitor.verdict.Goals as goal

some_same : (a b : ℕ) → Some a ≡ Some b → a ≡ b
some_same a b e = cc

some_events : (n : ℕ) → 1 ≤ n → nat_lt 0 n ≡ true
some_events n h = grind (arith, nat_tests)

pub returns : goal.returns
returns c = record {
  is = let m = c.args.self.now in
      let shared = subst (λ (n : State). IsShared n.shelf.table) c.self.view_is c.live-nodes.ensures.shared in
      let one = c.one.result in
      let valid = subst (λ (n : State). IsValid n.shelf.table one) c.self.view_is (subst (λ (t : Table). IsValid t one) c.table.ensures c.one.ensures.valid) in
      let tree = subst (λ (n : State). tree_of n.shelf.table one ≡ One) c.self.view_is (subst (λ (t : Table). tree_of t one ≡ One) c.table.ensures c.one.ensures.tree) in
      let at = subst (λ (n : State). option_map (λ (q : PlanProp). q.root) (slice_get n.plan.props c.args.p) ≡ Some c.root.result) c.self.view_is c.root.ensures in
      subst (λ b. option_map (λ (q : PlanProp). verdict_at m q.root) (slice_get m.plan.props c.args.p) ≡ Some b) (sym c.eq.ensures)
      (verdict_shown m shared c.args.p c.root.result c.now.result one at c.now.ensures.valid c.now.ensures.tree valid tree);
  truth = λ log root nu stands at long.
      let m = c.args.self.now in
      let monitor = subst IsMonitor c.self.view_is c.self.invariant.0 in
      let shared = subst (λ (n : State). IsShared n.shelf.table) c.self.view_is c.live-nodes.ensures.shared in
      let judged = subst (λ (n : State). n.has_now ≡ true) c.self.view_is
      (some_events c.self.inside.events (subst (λ (n : State). 1 ≤ n.events) (sym c.self.view_is) c.requires.some)) in
      let one = c.one.result in
      let valid = subst (λ (n : State). IsValid n.shelf.table one) c.self.view_is (subst (λ (t : Table). IsValid t one) c.table.ensures c.one.ensures.valid) in
      let tree = subst (λ (n : State). tree_of n.shelf.table one ≡ One) c.self.view_is (subst (λ (t : Table). tree_of t one ≡ One) c.table.ensures c.one.ensures.tree) in
      let same = some_same c.root.result root (sym (subst (λ (n : State). option_map (λ (q : PlanProp). q.root) (slice_get n.plan.props c.args.p) ≡ Some c.root.result) c.self.view_is c.root.ensures) ∙ at) in
      let own = c.now.ensures.tree ∙ ap (now_of m) same in
      subst (λ b. IsTrue b ↔ TrueCore log nu (formula_at m.plan.subs root) (length log)) (sym c.eq.ensures)
      (verdict_is m monitor shared c.args.p root c.now.result one at c.now.ensures.valid own valid tree judged log nu stands long);
}
