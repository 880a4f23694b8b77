use Rattle.std.proofs.Common.{[], ◌∷◌, ◌+◌, ◌++◌, List, ℕ, subst, take, drop, arith}
use Rattle.mon_base.specs.Told.{AppendsFront}
use Rattle.mon_base.proofs.Appending.{on_err}
use Rattle.report.specs.Lines.{witness_text}
use Rattle.report.proofs.Passages.{passes_trans, passes_front, front_before}
use Rattle.report.proofs.Showing.{witness_more, witness_split}
use Rattle.report.proofs.values.put_witness.Goals as goal

pub returns-in_err-put_shown-clause-err : goal.returns-in_err-put_shown-clause-err
returns-in_err-put_shown-clause-err g c =
    let i = c.loop-shown.shown-index in
    let all = c.args.witness.now in
    let here = c.shown-item.result in
    let before = witness_text (take i all) in
    let shown = witness_text (here ∷ []) in
    let front = passes_front _ _ _ c.args.output.now c.loop-shown.output before shown c.loop-shown.invariant.passed c.in_err-put_shown.ensures.err in
    on_err c.from_residual.result
    (subst (λ (l : List ℕ). AppendsFront (g.W.Sink.written c.args.out.now) (g.W.Sink.written c.put_shown.new.out) (c.args.output.now ++ l)) (witness_split all i here c.loop-shown-test.true c.shown-item.is)
    (front_before _ _ c.args.output.now (before ++ shown) (witness_text (drop (i + 1) all)) front))

pub loop-shown-preserved : goal.loop-shown-preserved
loop-shown-preserved g c =
    let i = c.loop-shown.shown-index in
    let all = c.args.witness.now in
    let here = c.shown-item.result in
    let passed = passes_trans _ _ _ c.args.output.now c.loop-shown.output c.put_shown.new.output (witness_text (take i all)) (witness_text (here ∷ [])) c.loop-shown.invariant.passed c.in_ok-put_shown.ensures.ok in
    record {
      passed = rw (witness_more all i here c.loop-shown-test.true c.shown-item.is) passed;
      later = omega (arith, c.loop-shown.invariant.later, c.put_shown.ensures.cause.later);
    }
