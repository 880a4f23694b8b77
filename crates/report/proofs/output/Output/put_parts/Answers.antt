use Rattle.std.proofs.Common.{map, drop, ◌+◌, subst, append_assoc, List, ℕ, [], arith}
use Rattle.std.specs.List.{concat}
use Rattle.mon_base.specs.Told.{AppendsFront}
use Rattle.mon_base.proofs.Appending.{on_err}
use Rattle.report.proofs.Passages.{passes_trans, passes_front, front_more, parts_more, parts_split}
use Rattle.report.proofs.output.Output.put_parts.Goals as goal

pub returns-in_err-put-clause-err : goal.returns-in_err-put-clause-err
returns-in_err-put-clause-err g c =
    let i = c.loop-part.part-index in
    let parts = c.args.parts.now in
    let front = passes_front _ _ _ c.args.self.now c.loop-part.self _ _ c.loop-part.invariant.passed c.in_err-put.ensures.err in
    let more = front_more _ _ _ (concat (map (λ p. p.now) (drop (i + 1) parts))) front in
    on_err c.from_residual.result
    (rw (parts_split (λ p. p.now) parts i (record { ref_ptr = (0, 0); now = [] }) c.loop-part-test.true) (subst (λ (l : List ℕ). AppendsFront (g.W.Sink.written c.args.out.now) (g.W.Sink.written c.put.new.out) l) (append_assoc c.args.self.now _ _) more))

pub loop-part-preserved : goal.loop-part-preserved
loop-part-preserved g c =
    let passed = passes_trans _ _ _ c.args.self.now c.loop-part.self c.put.new.self _ _ c.loop-part.invariant.passed c.in_ok-put.ensures.ok in
    record {
      passed = rw (parts_more (λ p. p.now) c.args.parts.now c.loop-part.part-index (record { ref_ptr = (0, 0); now = [] }) c.loop-part-test.true) passed;
      later = omega (arith, c.loop-part.invariant.later, c.put.ensures.cause.later);
    }
