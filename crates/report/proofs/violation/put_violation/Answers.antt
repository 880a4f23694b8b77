use Rattle.std.proofs.Common.{[], ◌∷◌, ◌++◌, List, ℕ, subst, ◌∙◌}
use Rattle.std.proofs.lemmas.Result.{on_ok_weaker, on_err_weaker}
use Rattle.mon_base.specs.Told.{AppendsFront}
use Rattle.mon_base.proofs.Appending.{on_err}
use Rattle.report.specs.Lines.{witness_text}
use Rattle.report.specs.Passing.{Passes}
use Rattle.report.proofs.Passages.{passes_trans, passes_front, front_before}
use Rattle.report.proofs.Showing.{before_witness, violation_is}
use Rattle.report.proofs.violation.put_violation.Goals as goal

pub returns-in_err-put_parts-clause-err : goal.returns-in_err-put_parts-clause-err
returns-in_err-put_parts-clause-err g c =
    let head = before_witness c.args.event c.args.name.now in
    let shown = witness_text c.args.witness.now in
    let front = rw (c.as_slice.ensures, c.as_bytes-number.ensures.value ∙ c.format.ensures.text, c.bytes.ensures) at c.in_err-put_parts.ensures.err in
    on_err c.from_residual.result
    (subst (λ (l : List ℕ). AppendsFront (g.W.Sink.written c.args.out.now) (g.W.Sink.written c.put_parts.new.out) (c.args.output.now ++ l)) (violation_is c.args.event c.args.name.now c.args.witness.now)
    (front_before _ _ c.args.output.now head (shown ++ 10 ∷ []) front))

pub returns-in_err-put_witness-clause-err : goal.returns-in_err-put_witness-clause-err
returns-in_err-put_witness-clause-err g c =
    let head = before_witness c.args.event c.args.name.now in
    let shown = witness_text c.args.witness.now in
    let passed = rw (c.as_slice.ensures, c.as_bytes-number.ensures.value ∙ c.format.ensures.text, c.bytes.ensures) at c.in_ok-put_parts.ensures.ok in
    on_err c.from_residual-in_err-put_witness.result
    (subst (λ (l : List ℕ). AppendsFront (g.W.Sink.written c.args.out.now) (g.W.Sink.written c.put_witness.new.out) (c.args.output.now ++ l)) (violation_is c.args.event c.args.name.now c.args.witness.now)
    (passes_front _ _ _ c.args.output.now c.put_parts.new.self head (shown ++ 10 ∷ []) passed (front_before _ _ c.put_parts.new.self shown (10 ∷ []) c.in_err-put_witness.ensures.err)))

pub returns-clause-ok : goal.returns-clause-ok
returns-clause-ok g c =
    let head = before_witness c.args.event c.args.name.now in
    let shown = witness_text c.args.witness.now in
    let passed = rw (c.as_slice.ensures, c.as_bytes-number.ensures.value ∙ c.format.ensures.text, c.bytes.ensures) at c.in_ok-put_parts.ensures.ok in
    on_ok_weaker c.put.result
    (λ h. subst (λ (l : List ℕ). Passes (g.W.Sink.written c.args.out.now) (g.W.Sink.written c.put.new.out) c.args.output.now c.put.new.self l) (violation_is c.args.event c.args.name.now c.args.witness.now)
    (passes_trans _ _ _ c.args.output.now c.put_parts.new.self c.put.new.self head (shown ++ 10 ∷ []) passed (passes_trans _ _ _ c.put_parts.new.self c.put_witness.new.output c.put.new.self shown (10 ∷ []) c.in_ok-put_witness.ensures.ok h)))
    c.put.ensures.ok

pub returns-clause-err : goal.returns-clause-err
returns-clause-err g c =
    let head = before_witness c.args.event c.args.name.now in
    let shown = witness_text c.args.witness.now in
    let passed = rw (c.as_slice.ensures, c.as_bytes-number.ensures.value ∙ c.format.ensures.text, c.bytes.ensures) at c.in_ok-put_parts.ensures.ok in
    on_err_weaker c.put.result
    (λ f. subst (λ (l : List ℕ). AppendsFront (g.W.Sink.written c.args.out.now) (g.W.Sink.written c.put.new.out) (c.args.output.now ++ l)) (violation_is c.args.event c.args.name.now c.args.witness.now)
    (passes_front _ _ _ c.args.output.now c.put_parts.new.self head (shown ++ 10 ∷ []) passed (passes_front _ _ _ c.put_parts.new.self c.put_witness.new.output shown (10 ∷ []) c.in_ok-put_witness.ensures.ok f)))
    c.put.ensures.err
