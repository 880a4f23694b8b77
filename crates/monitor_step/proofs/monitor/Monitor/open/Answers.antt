use Rattle.std.proofs.Common.{◌≡◌, ◌∙◌, ℕ, ap, List, length, take, subst, refl, true, false}
use Rattle.std.proofs.Math.Seq.{take-length}
use Rattle.node_table.specs.Table.{Table}
use Rattle.wellformed.specs.declared.core_formula.Variable.{Variable}
use Rattle.subformulas.specs.Table as plan_table
use Rattle.monitor_model.specs.State.{State, temporal_count}
use Rattle.monitor_step.specs.Handles.{AreFirstHandles}
use Rattle.monitor_step.proofs.Stepping.Opening.{opened, opened_live, opened_stands}
use Rattle.monitor_step.proofs.Stepping.Parts.{live_shape}
use Rattle.monitor_step.proofs.monitor.Monitor.open.Goals as goal

pub invariant_of-result-2 : goal.invariant_of-result-2
invariant_of-result-2 c =
    let m : State = record { plan = c.args.plan; bits = c.args.sizes.bits; shelf = c.in_ok-store.store; books = c.in_ok-books.books.items; handles = c.in_ok-handles.handles.items; live = true; has_now = false; events = 0; last_time = 0 } in
    let plan = subst plan_table.IsSound c.plan.view_is c.plan.invariant in
    let first = subst (λ (t : Table). AreFirstHandles m.plan.subs t m.handles) c.table.ensures c.in_ok-handles.ensures in
    let count = subst (λ (vs : List Variable). length m.books ≡ length vs) c.variables-variables.ensures c.in_ok-books.ensures.count in
    let monitor = opened m first c.in_ok-books.ensures.empty plan c.requires.few_terms c.requires.some_bits c.requires.few_bits count refl in
    rw c.store.view_is (
      monitor,
      c.temporal_before.ensures ∙ ap temporal_count (ap (λ (n : ℕ). take n m.plan.subs) c.count.ensures.count ∙ take-length m.plan.subs),
      λ live. opened_live m first c.in_ok-books.ensures.empty c.in_ok-books.ensures.sound refl,
      c.in_ok-open_lists.ensures,
    )

pub returns-clause-stands : goal.returns-clause-stands
returns-clause-stands c =
    let m : State = record { plan = c.args.plan; bits = c.args.sizes.bits; shelf = c.in_ok-store.store; books = c.in_ok-books.books.items; handles = c.in_ok-handles.handles.items; live = true; has_now = false; events = 0; last_time = 0 } in
    let plan = subst plan_table.IsSound c.plan.view_is c.plan.invariant in
    let first = subst (λ (t : Table). AreFirstHandles m.plan.subs t m.handles) c.table.ensures c.in_ok-handles.ensures in
    let count = subst (λ (vs : List Variable). length m.books ≡ length vs) c.variables-variables.ensures c.in_ok-books.ensures.count in
    let monitor = opened m first c.in_ok-books.ensures.empty plan c.requires.few_terms c.requires.some_bits c.requires.few_bits count refl in
    rw c.store.view_is (opened_stands m first c.in_ok-books.ensures.empty monitor refl refl refl refl)

pub returns-clause-shape : goal.returns-clause-shape
returns-clause-shape c =
    let m : State = record { plan = c.args.plan; bits = c.args.sizes.bits; shelf = c.in_ok-store.store; books = c.in_ok-books.books.items; handles = c.in_ok-handles.handles.items; live = true; has_now = false; events = 0; last_time = 0 } in
    let first = subst (λ (t : Table). AreFirstHandles m.plan.subs t m.handles) c.table.ensures c.in_ok-handles.ensures in
    rw c.store.view_is (live_shape m (opened_live m first c.in_ok-books.ensures.empty c.in_ok-books.ensures.sound refl))
