use Rattle.std.proofs.Common.{◌≤◌, ◌+◌, ◌++◌, List, ℕ, subst, take, drop, length, get_or, arith}
use Rattle.std.specs.Prelude.{slice_range}
use Rattle.std.specs.List.{flat_map}
use Rattle.std.proofs.lemmas.Result.{on_ok_weaker, on_err_weaker}
use Rattle.mon_base.specs.Told.{AppendsFront}
use Rattle.mon_base.proofs.Appending.{on_err}
use Rattle.report.specs.Lines.{quoted_byte}
use Rattle.report.specs.Passing.{Passes}
use Rattle.report.proofs.Passages.{passes_trans, passes_front, front_before}
use Rattle.report.proofs.Quoting.{run_none, run_more, run_ends, run_split, run_last}
use Rattle.report.proofs.quoted.put_inside.Goals as goal
use Rattle.report.proofs.quoted.put_inside.Goals.{then-not-is_plain+in_ok-put_run, else-not-is_plain}

pub returns-in_err-put_run-clause-err : goal.returns-in_err-put_run-clause-err
returns-in_err-put_run-clause-err g c =
    let text = c.args.text.now in
    let from = c.loop-at.from in
    let i = c.loop-at.at in
    let before = flat_map quoted_byte (take from text) in
    let run = slice_range text from i ++ quoted_byte (get_or text i 0) in
    let front = passes_front _ _ _ c.args.output.now c.loop-at.output before run c.loop-at.invariant.passed c.in_err-put_run.ensures.err in
    on_err c.from_residual.result
    (subst (λ (l : List ℕ). AppendsFront (g.W.Sink.written c.args.out.now) (g.W.Sink.written c.put_run.new.out) (c.args.output.now ++ l)) (run_split quoted_byte text from i 0 c.loop-at-test.true c.loop-at.invariant.run)
    (front_before _ _ c.args.output.now (before ++ run) (flat_map quoted_byte (drop (i + 1) text)) front))

pub loop-at-preserved : goal.loop-at-preserved
loop-at-preserved g c =
    let text = c.args.text.now in
    let from = c.loop-at.from in
    let i = c.loop-at.at in
    let inv = c.loop-at.invariant in
    elim c.if-not-is_plain.branch [
      | then-not-is_plain+in_ok-put_run w ↦
          let run = slice_range text from i ++ quoted_byte (get_or text i 0) in
          let passed = passes_trans _ _ _ c.args.output.now c.loop-at.output w.put_run.new.output (flat_map quoted_byte (take from text)) run inv.passed w.in_ok-put_run.ensures.ok in
          record {
            passed = rw (w.output-is, w.out-is, w.from-is)
                (subst (λ (l : List ℕ). Passes (g.W.Sink.written c.args.out.now) (g.W.Sink.written w.put_run.new.out) c.args.output.now w.put_run.new.output l) (run_ends quoted_byte text from i 0 c.loop-at-test.true inv.run) passed);
            run = rw w.from-is (run_none quoted_byte text (i + 1));
            within = omega (arith, w.from-is);
            later = rw w.out-is (omega (arith, inv.later, w.put_run.ensures.cause.later));
          }
      | else-not-is_plain w ↦ record {
        passed = rw (w.output-is, w.out-is, w.from-is) inv.passed;
        run = rw w.from-is (run_more quoted_byte text from i 0 inv.within c.loop-at-test.true (c.is_plain.ensures.0 w.if-not-is_plain.false) inv.run);
        within = omega (arith, w.from-is, inv.within);
        later = rw w.out-is inv.later;
      }
    ]

pub returns-clause-ok : goal.returns-clause-ok
returns-clause-ok g c =
    let text = c.args.text.now in
    let from = c.loop-at.from in
    let past : length text ≤ c.loop-at.at = omega (arith, c.loop-at-test.false) in
    on_ok_weaker c.put.result
    (λ h. subst (λ (l : List ℕ). Passes (g.W.Sink.written c.args.out.now) (g.W.Sink.written c.put.new.out) c.args.output.now c.put.new.self l) (run_last quoted_byte text from c.loop-at.at past c.loop-at.invariant.run)
    (passes_trans _ _ _ c.args.output.now c.loop-at.output c.put.new.self (flat_map quoted_byte (take from text)) (slice_range text from (length text)) c.loop-at.invariant.passed h))
    c.put.ensures.ok

pub returns-clause-err : goal.returns-clause-err
returns-clause-err g c =
    let text = c.args.text.now in
    let from = c.loop-at.from in
    let past : length text ≤ c.loop-at.at = omega (arith, c.loop-at-test.false) in
    on_err_weaker c.put.result
    (λ f. subst (λ (l : List ℕ). AppendsFront (g.W.Sink.written c.args.out.now) (g.W.Sink.written c.put.new.out) (c.args.output.now ++ l)) (run_last quoted_byte text from c.loop-at.at past c.loop-at.invariant.run)
    (passes_front _ _ _ c.args.output.now c.loop-at.output (flat_map quoted_byte (take from text)) (slice_range text from (length text)) c.loop-at.invariant.passed f))
    c.put.ensures.err
