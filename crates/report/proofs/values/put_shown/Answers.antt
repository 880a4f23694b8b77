use Rattle.std.proofs.Common.{◌++◌, List, ℕ, subst}
use Rattle.std.proofs.lemmas.Result.{on_ok_weaker, on_err_weaker}
use Rattle.mon_base.specs.Told.{AppendsFront}
use Rattle.mon_base.proofs.Appending.{on_err}
use Rattle.report.specs.Lines.{value_text}
use Rattle.report.specs.Passing.{Passes}
use Rattle.report.proofs.Passages.{passes_trans, passes_front, front_before}
use Rattle.report.proofs.Showing.{before_value, shown_is}
use Rattle.report.proofs.values.put_shown.Goals as goal

pub returns-in_err-put_parts-clause-err : goal.returns-in_err-put_parts-clause-err
returns-in_err-put_parts-clause-err g c =
    let s = c.args.shown.now in
    let named = before_value s.name in
    let front = rw (c.as_slice.ensures, c.bytes.ensures) at c.in_err-put_parts.ensures.err in
    on_err c.from_residual.result
    (subst (λ (l : List ℕ). AppendsFront (g.W.Sink.written c.args.out.now) (g.W.Sink.written c.put_parts.new.out) (c.args.output.now ++ l)) (shown_is s)
    (front_before _ _ c.args.output.now named (value_text s.value) front))

pub returns-clause-ok : goal.returns-clause-ok
returns-clause-ok g c =
    let s = c.args.shown.now in
    let named = before_value s.name in
    let passed = rw (c.as_slice.ensures, c.bytes.ensures) at c.in_ok-put_parts.ensures.ok in
    on_ok_weaker c.put_value.result
    (λ h. subst (λ (l : List ℕ). Passes (g.W.Sink.written c.args.out.now) (g.W.Sink.written c.put_value.new.out) c.args.output.now c.put_value.new.output l) (shown_is s)
    (passes_trans _ _ _ c.args.output.now c.put_parts.new.self c.put_value.new.output named (value_text s.value) passed h))
    c.put_value.ensures.ok

pub returns-clause-err : goal.returns-clause-err
returns-clause-err g c =
    let s = c.args.shown.now in
    let named = before_value s.name in
    let passed = rw (c.as_slice.ensures, c.bytes.ensures) at c.in_ok-put_parts.ensures.ok in
    on_err_weaker c.put_value.result
    (λ f. subst (λ (l : List ℕ). AppendsFront (g.W.Sink.written c.args.out.now) (g.W.Sink.written c.put_value.new.out) (c.args.output.now ++ l)) (shown_is s)
    (passes_front _ _ _ c.args.output.now c.put_parts.new.self named (value_text s.value) passed f))
    c.put_value.ensures.err
