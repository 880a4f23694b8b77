use Rattle.std.proofs.Common.{◌∙◌, ℕ, ◌+◌, ◌≤◌, List, [], ◌∷◌, ◌++◌, map, refl, sym, ap, subst, Some, true, false}
use Rattle.std.proofs.lemmas.List.{map-append}
use Rattle.report.specs.declared.shown.Shown.{Shown}
use Rattle.monitor_run.proofs.Judged.Writing.{bound_more, bound_stays, bound_whole, first_bound, false_adds, true_adds}
use Rattle.monitor_run.proofs.judge.find_witnesses.Goals as goal
use Rattle.monitor_run.proofs.judge.find_witnesses.Goals.{then-not-verdict+in_ok-witness+in_ok-push, else-not-verdict}

pub returns-in_err-witness-clause-cost : goal.returns-in_err-witness-clause-cost
returns-in_err-witness-clause-cost g c =
    let m = c.args.monitor.now in
    bound_whole m (c.loop-p.p + 1) c.args.steps.now c.find.new.steps
    (bound_more m c.loop-p.p _ c.args.steps.now c.loop-p.steps c.find.new.steps false (c.verdict.ensures.is ∙ ap Some c.if-not-verdict.true) refl c.loop-p.invariant.cost c.find.ensures.cost)

pub returns-in_err-push-clause-cost : goal.returns-in_err-push-clause-cost
returns-in_err-push-clause-cost g c =
    let m = c.args.monitor.now in
    bound_whole m (c.loop-p.p + 1) c.args.steps.now c.find.new.steps
    (bound_more m c.loop-p.p _ c.args.steps.now c.loop-p.steps c.find.new.steps false (c.verdict.ensures.is ∙ ap Some c.if-not-verdict.true) refl c.loop-p.invariant.cost c.find.ensures.cost)

pub loop-p-preserved : goal.loop-p-preserved
loop-p-preserved g c =
    let m = c.args.monitor.now in
    let p = c.loop-p.p in
    let i = c.loop-p.invariant in
    record {
      found = elim c.if-not-verdict.branch [
        | then-not-verdict+in_ok-witness+in_ok-push w ↦
            ap (λ v. map (λ w. w.items) v.items) w.found-is
            ∙ (ap (map (λ w. w.items)) w.in_ok-push.ensures.items
            ∙ (map-append (λ w. w.items) c.loop-p.found.items _
            ∙ (ap (λ (l : List (List Shown)). l ++ w.in_ok-witness.witness.items ∷ []) i.found
            ∙ sym (false_adds m p _ w.in_ok-witness.witness.items (c.verdict.ensures.is ∙ ap Some w.if-not-verdict.true) refl w.in_ok-witness.ensures.is))))
        | else-not-verdict w ↦ ap (λ v. map (λ w. w.items) v.items) w.found-is ∙ (i.found ∙ sym (true_adds m p (c.verdict.ensures.is ∙ ap Some w.if-not-verdict.false)))
      ];
      cost = elim c.if-not-verdict.branch [
        | then-not-verdict+in_ok-witness+in_ok-push w ↦
            subst (λ (n : ℕ). n ≤ c.args.steps.now + first_bound m (p + 1)) (sym w.steps-is)
            (bound_more m p _ c.args.steps.now c.loop-p.steps w.find.new.steps false (c.verdict.ensures.is ∙ ap Some w.if-not-verdict.true) refl i.cost w.find.ensures.cost)
        | else-not-verdict w ↦
            subst (λ (n : ℕ). n ≤ c.args.steps.now + first_bound m (p + 1)) (sym w.steps-is)
            (bound_stays m p c.args.steps.now c.loop-p.steps true (c.verdict.ensures.is ∙ ap Some w.if-not-verdict.false) i.cost)
      ];
    }
