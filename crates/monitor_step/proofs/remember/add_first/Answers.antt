use Rattle.std.proofs.Common.{◌≡◌, ◌∙◌, ℕ, ◌+◌, ◌-◌, ◌++◌, [], ◌∷◌, ap, sym, arith, take, append_assoc}
use Rattle.monitor_step.specs.Handles.{first_handles}
use Rattle.monitor_step.proofs.Rows.Kept.{first_yes, first_no}
use Rattle.monitor_step.proofs.remember.add_first.Goals as goal
use Rattle.monitor_step.proofs.remember.add_first.Goals.{then-is_temporal+in_ok-push, else-is_temporal}

pub loop-k-preserved : goal.loop-k-preserved
loop-k-preserved c =
    let place : c.loop-k.k + 1 - 1 ≡ c.loop-k.k = omega arith in
    let at = rw place at c.sub.ensures in
    let k = c.loop-k.k in
    let subs = c.args.plan.now.subs in
    let old = c.args.handles.now.items in
    let F = first_handles c.args.zero c.args.one (take k subs) in
    elim c.if-is_temporal.branch [
      | then-is_temporal+in_ok-push w ↦
          let h = w.first_handle.result in
          let more = first_yes c.args.zero c.args.one subs k c.sub.result.now at (sym c.is_temporal.ensures ∙ w.if-is_temporal.true) in
          rw (w.handles-is, w.in_ok-push.ensures.items)
          (ap (λ xs. xs ++ h ∷ []) c.loop-k.invariant ∙ (append_assoc old F (h ∷ []) ∙ ap (λ xs. old ++ xs) (ap (λ (x : ℕ). F ++ x ∷ []) w.first_handle.ensures ∙ sym more)))
      | else-is_temporal w ↦
          let more = first_no c.args.zero c.args.one subs k c.sub.result.now at (sym c.is_temporal.ensures ∙ w.if-is_temporal.false) in
          rw w.handles-is (c.loop-k.invariant ∙ ap (λ xs. old ++ xs) (sym more))
    ]
