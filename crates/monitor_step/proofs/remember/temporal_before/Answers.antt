use Rattle.std.proofs.Common.{◌≡◌, ℕ, ◌+◌, ◌-◌, ◌∙◌, sym, ap, take, arith}
use Rattle.std.proofs.lemmas.List.{length-take-le}
use Rattle.std.proofs.lemmas.List.Sums.{count_by-le-length}
use Rattle.subformulas.specs.declared.table.Sub.{Sub}
use Rattle.subformulas.specs.Memory.{is_temporal}
use Rattle.monitor_model.specs.State.{temporal_count}
use Rattle.monitor_step.proofs.Rows.Counted.{temporal_yes, temporal_no}
use Rattle.monitor_step.proofs.remember.temporal_before.Goals as goal
use Rattle.monitor_step.proofs.remember.temporal_before.Goals.{then-is_temporal, else-is_temporal}

pub overflow_add-count : goal.overflow_add-count
overflow_add-count c =
    let i = c.loop-k.invariant in
    let m = count_by-le-length (λ (s : Sub). is_temporal s.kind) (take c.loop-k.k c.args.plan.now.subs) in
    let l = length-take-le c.loop-k.k c.args.plan.now.subs (omega (arith, c.loop-k-test.true, c.requires)) in
    let f = c.ranges.n in
    omega (arith, i, m, l, c.loop-k-test.true, f)

pub loop-k-preserved : goal.loop-k-preserved
loop-k-preserved c =
    let place : c.loop-k.k + 1 - 1 ≡ c.loop-k.k = omega arith in
    let at = rw place at c.sub.ensures in
    elim c.if-is_temporal.branch [
      | then-is_temporal w ↦ let e = temporal_yes c.args.plan.now.subs c.loop-k.k c.sub.result.now at (sym c.is_temporal.ensures ∙ w.if-is_temporal.true) in let i = c.loop-k.invariant in let n = w.count-is in omega (arith, e, i, n)
      | else-is_temporal w ↦ let e = temporal_no c.args.plan.now.subs c.loop-k.k c.sub.result.now at (sym c.is_temporal.ensures ∙ w.if-is_temporal.false) in let i = c.loop-k.invariant in let n = w.count-is in omega (arith, e, i, n)
    ]

pub returns : goal.returns
returns c =
    let e : c.loop-k.k ≡ c.args.n = omega (arith, c.loop-k.auto.k-end, c.loop-k-test.false) in
    c.loop-k.invariant ∙ ap (λ (n : ℕ). temporal_count (take n c.args.plan.now.subs)) e
