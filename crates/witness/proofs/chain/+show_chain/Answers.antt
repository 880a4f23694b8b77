use Rattle.std.proofs.Common.{◌≡◌, ℕ, ◌+◌, ◌-◌, ◌*◌, ◌^◌, ◌<◌, sym, ◌∙◌, ap, subst, arith, ◌++◌, Some, append-nil}
use Rattle.std.specs.Prelude.{slice_get, OnOk, Result, Ok, Err}
use Rattle.node_table.specs.Table.{IsShared, tree_of}
use Rattle.subformulas.specs.Table.{Table, IsSound}
use Rattle.witness.specs.Finding.{shown_over}
use Rattle.witness.proofs.ChainRows.{chain_done, child}
use Rattle.witness.proofs.Going.{cost_first, cost_on, first_turn, later_turns, shown_more}
use Rattle.witness.proofs.chain.+show_chain.Goals as goal

on_ok : {A E : Type 0} {P Q : Type 0} (r : Result A E) → OnOk r P → (P → Q) → OnOk r Q
on_ok (Ok a) h f = f h
on_ok (Err e) h f = tt

pub show-requires-clause-below : goal.show-requires-clause-below
show-requires-clause-below g t c =
    let m = c.args.monitor.now in
    let tree = tree_of m.shelf.table c.args.h in
    let sound = subst IsSound c.plan-plan.ensures c.count-sound.ensures.sound in
    let at = subst (λ (p : Table). slice_get p.subs (c.args.k - 1) ≡ Some c.sub-sub.result.now) c.plan-plan.ensures c.sub-sub.ensures in
    let shared = subst IsShared c.table.ensures c.live-held.ensures.shared in
    first_turn m sound c.args.k c.sub-sub.result.now c.requires.from at c.in-Forall.x c.in-Forall.is tree (shared.ordered c.args.h c.requires.valid) c.requires.turns

pub returns-in_err-rest-in-Forall-clause-cost : goal.returns-in_err-rest-in-Forall-clause-cost
returns-in_err-rest-in-Forall-clause-cost g t c =
    let m = c.args.monitor.now in
    let sound = subst IsSound c.plan-plan.ensures c.count-sound.ensures.sound in
    let at = subst (λ (p : Table). slice_get p.subs (c.args.k - 1) ≡ Some c.sub-sub.result.now) c.plan-plan.ensures c.sub-sub.ensures in
    cost_first m sound c.args.k c.sub-sub.result.now c.requires.from at c.in-Forall.x c.in-Forall.is ((m.bits + 1) * 2 ^ m.bits) c.args.steps.now c.show.new.steps c.show.ensures.cost

pub show_chain-requires : goal.show_chain-requires
show_chain-requires g t c κs within =
    let m = c.args.monitor.now in
    let tree = tree_of m.shelf.table c.args.h in
    let sound = subst IsSound c.plan-plan.ensures c.count-sound.ensures.sound in
    let at = subst (λ (p : Table). slice_get p.subs (c.args.k - 1) ≡ Some c.sub-sub.result.now) c.plan-plan.ensures c.sub-sub.ensures in
    let shared = subst IsShared c.table.ensures c.live-held.ensures.shared in
    let row = child m.plan sound c.args.k c.sub-sub.result.now c.requires.from at c.in-Forall.x c.in-Forall.is in
    let less = row.1 in (
      subst (λ (n : ℕ). c.sub-sub.result.now.left < n) c.decreases less,
      (
        within,
        (
          c.requires.live,
          (
            row.0,
            (
              omega (arith, less, c.requires.to),
              (
                c.in_ok-rest-in-Forall.ensures.valid,
                later_turns m sound c.args.k c.sub-sub.result.now c.requires.from at c.in-Forall.x c.in-Forall.is tree (tree_of m.shelf.table c.in_ok-rest-in-Forall.rest)
                    (shared.ordered c.args.h c.requires.valid) (shared.reduced c.args.h c.requires.valid) c.requires.turns c.in_ok-rest-in-Forall.ensures.tree,
              ),
            ),
          ),
        ),
      ),
    )

pub returns-in_ok-rest-in-Forall-clause-shown : goal.returns-in_ok-rest-in-Forall-clause-shown
returns-in_ok-rest-in-Forall-clause-shown g t c =
    let m = c.args.monitor.now in
    let tree = tree_of m.shelf.table c.args.h in
    let sound = subst IsSound c.plan-plan.ensures c.count-sound.ensures.sound in
    let at = subst (λ (p : Table). slice_get p.subs (c.args.k - 1) ≡ Some c.sub-sub.result.now) c.plan-plan.ensures c.sub-sub.ensures in
    on_ok c.show_chain.result c.show_chain.ensures.shown
    (λ later. shown_more m sound c.args.k c.sub-sub.result.now c.requires.from at c.in-Forall.x c.in-Forall.is c.args.shown.now.items c.show.new.shown.items c.show_chain.new.shown.items
    tree (tree_of m.shelf.table c.in_ok-rest-in-Forall.rest) c.in_ok-rest-in-Forall.ensures.tree c.in_ok-rest-in-Forall.ensures.shown later)

pub returns-in_ok-rest-in-Forall-clause-cost : goal.returns-in_ok-rest-in-Forall-clause-cost
returns-in_ok-rest-in-Forall-clause-cost g t c =
    let m = c.args.monitor.now in
    let sound = subst IsSound c.plan-plan.ensures c.count-sound.ensures.sound in
    let at = subst (λ (p : Table). slice_get p.subs (c.args.k - 1) ≡ Some c.sub-sub.result.now) c.plan-plan.ensures c.sub-sub.ensures in
    cost_on m sound c.args.k c.sub-sub.result.now c.requires.from at c.in-Forall.x c.in-Forall.is ((m.bits + 1) * 2 ^ m.bits) c.args.steps.now c.show.new.steps c.show_chain.new.steps
    c.show.ensures.cost c.show_chain.ensures.cost

pub returns-in_default : goal.returns-in_default
returns-in_default g t c =
    let m = c.args.monitor.now in
    let sound = subst IsSound c.plan-plan.ensures c.count-sound.ensures.sound in
    let at = subst (λ (p : Table). slice_get p.subs (c.args.k - 1) ≡ Some c.sub-sub.result.now) c.plan-plan.ensures c.sub-sub.ensures in
    let none = chain_done m.plan sound c.args.k c.sub-sub.result.now c.requires.from at c.in_default.not-Forall in
    record {
      shown = sym (append-nil c.args.shown.now.items) ∙ ap (λ xs. c.args.shown.now.items ++ shown_over m xs (tree_of m.shelf.table c.args.h)) (sym none);
      cost = omega arith;
    }
