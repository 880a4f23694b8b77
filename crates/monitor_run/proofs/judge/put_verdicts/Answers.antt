use Rattle.std.proofs.Common.{◌≡◌, ◌∙◌, ℕ, ◌+◌, ◌++◌, length, refl, sym, ap, subst, arith, rules, Bool, Some}
use Rattle.std.specs.Prelude.{slice_get}
use Rattle.std.specs.Option.{option_map}
use Rattle.std.proofs.lemmas.Option.{slice_get_read}
use Rattle.subformulas.specs.Table.{Table}
use Rattle.mon_base.specs.Told.{AppendsFront}
use Rattle.mon_base.proofs.Appending.{on_err}
use Rattle.qtl_syntax.specs.Tree.{Text}
use Rattle.report.specs.Lines.{event_lines, verdict_text}
use Rattle.report.specs.Passing.{Passes}
use Rattle.report.specs.Verdicts.{True}
use Rattle.report.proofs.Passages.{passes_none}
use Rattle.monitor_run.specs.Standing.{names_in, row_of}
use Rattle.monitor_run.proofs.Judged.Writing.{empty_is, false_adds_one, front_false, front_true, nothing_shown, one_more_witness, pass_false, pass_true, true_adds}
use Rattle.monitor_run.proofs.judge.put_verdicts.Goals as goal
use Rattle.monitor_run.proofs.judge.put_verdicts.Goals.{then-not-verdict+in_ok-put_violation, else-not-verdict+then-shows_true+in_ok-put_holds, else-not-verdict+else-shows_true}

-- nothing is to be written
pub returns-then-not-shows_true-clause-ok : goal.returns-then-not-shows_true-clause-ok
returns-then-not-shows_true-clause-ok g c =
    let m = c.args.monitor.now in
    let none = nothing_shown (λ w. w.items) c.args.event m c.args.witnesses.now c.requires.are (empty_is c.args.witnesses.now (sym c.is_empty.ensures ∙ c.if-is_empty.true)) in
    let w = g.W.Sink.written c.args.out.now in
    subst (λ (l : Text). Passes w w c.args.output.now c.args.output.now l) (sym (ap (λ (all : Bool). event_lines all c.args.event (names_in m) (row_of m)) c.if-not-shows_true.true ∙ none)) (passes_none w c.args.output.now)

-- there is a witness for each false verdict
pub offset_bounds-witnesses-next : goal.offset_bounds-witnesses-next
offset_bounds-witnesses-next g c =
    let h = one_more_witness (λ w. w.items) c.args.monitor.now c.loop-p.p c.loop-p.next c.args.witnesses.now c.requires.are c.loop-p.invariant.behind (c.verdict.ensures.is ∙ ap Some c.if-not-verdict.true) in
    search (arith, rules)

pub bounds-witnesses-next : goal.bounds-witnesses-next
bounds-witnesses-next g c =
    one_more_witness (λ w. w.items) c.args.monitor.now c.loop-p.p c.loop-p.next c.args.witnesses.now c.requires.are c.loop-p.invariant.behind (c.verdict.ensures.is ∙ ap Some c.if-not-verdict.true)

pub overflow_add-next : goal.overflow_add-next
overflow_add-next g c =
    let h = one_more_witness (λ w. w.items) c.args.monitor.now c.loop-p.p c.loop-p.next c.args.witnesses.now c.requires.are c.loop-p.invariant.behind (c.verdict.ensures.is ∙ ap Some c.if-not-verdict.true) in
    search (arith, rules)

-- a write fails
pub returns-in_err-put_violation-clause-err : goal.returns-in_err-put_violation-clause-err
returns-in_err-put_violation-clause-err g c =
    let named = subst (λ (plan : Table). option_map (λ q. q.name) (slice_get plan.props c.loop-p.p) ≡ Some c.prop_name-name.result.now) c.plan-plan.ensures c.prop_name-name.ensures in
    let m = c.args.monitor.now in
    let fails = c.verdict.ensures.is ∙ ap Some c.if-not-verdict.true in
    let i = c.loop-p.invariant in
    let h = one_more_witness (λ w. w.items) m c.loop-p.p c.loop-p.next c.args.witnesses.now c.requires.are i.behind fails in
    let own = c.index-witnesses-next.result in
    let at = slice_get_read c.args.witnesses.now (length c.args.witnesses.now) c.loop-p.next own refl h c.index-witnesses-next.is in
    on_err c.from_residual.result
    (front_false c.args.shows_true c.args.event m c.loop-p.p c.prop_name-name.result.now (g.W.Sink.written c.args.out.now) (g.W.Sink.written c.loop-p.out) (g.W.Sink.written c.put_violation.new.out) c.args.output.now c.loop-p.output c.put_violation.new.output named i.passed
    (λ w. w.items) c.args.witnesses.now c.loop-p.next own c.requires.are i.behind fails at (rw (← c.as_slice.ensures.value) c.in_err-put_violation.ensures.err))

pub returns-in_err-put_holds-clause-err : goal.returns-in_err-put_holds-clause-err
returns-in_err-put_holds-clause-err g c =
    let named = subst (λ (plan : Table). option_map (λ q. q.name) (slice_get plan.props c.loop-p.p) ≡ Some c.prop_name-name.result.now) c.plan-plan.ensures c.prop_name-name.ensures in
    let m = c.args.monitor.now in
    let holds = c.verdict.ensures.is ∙ ap Some c.if-not-verdict.false in
    let name = c.prop_name-name.result.now in
    let w0 = g.W.Sink.written c.args.out.now in
    on_err c.from_residual-in_err-put_holds.result
    (front_true c.args.shows_true c.args.event m c.loop-p.p name w0 (g.W.Sink.written c.loop-p.out) (g.W.Sink.written c.put_holds.new.out) c.args.output.now c.loop-p.output c.put_holds.new.output named c.loop-p.invariant.passed holds
    (subst (λ (all : Bool). AppendsFront (g.W.Sink.written c.loop-p.out) (g.W.Sink.written c.put_holds.new.out) (c.loop-p.output ++ verdict_text all c.args.event name True)) (sym c.if-shows_true.true) c.in_err-put_holds.ensures.err))

-- one verdict more was written
pub loop-p-preserved : goal.loop-p-preserved
loop-p-preserved g c =
    let named = subst (λ (plan : Table). option_map (λ q. q.name) (slice_get plan.props c.loop-p.p) ≡ Some c.prop_name-name.result.now) c.plan-plan.ensures c.prop_name-name.ensures in
    let m = c.args.monitor.now in
    let all = c.args.shows_true in
    let p = c.loop-p.p in
    let name = c.prop_name-name.result.now in
    let i = c.loop-p.invariant in
    let w0 = g.W.Sink.written c.args.out.now in
    let w1 = g.W.Sink.written c.loop-p.out in
    record {
      passed = elim c.if-not-verdict.branch [
        | then-not-verdict+in_ok-put_violation w ↦
            let fails = c.verdict.ensures.is ∙ ap Some w.if-not-verdict.true in
            let h = one_more_witness (λ w. w.items) m p c.loop-p.next c.args.witnesses.now c.requires.are i.behind fails in
            let own = w.index-witnesses-next.result in
            let at = slice_get_read c.args.witnesses.now (length c.args.witnesses.now) c.loop-p.next own refl h w.index-witnesses-next.is in
            rw (w.out-is, w.output-is)
            (pass_false all c.args.event m p name w0 w1 (g.W.Sink.written w.put_violation.new.out) c.args.output.now c.loop-p.output w.put_violation.new.output named i.passed
            (λ w. w.items) c.args.witnesses.now c.loop-p.next own c.requires.are i.behind fails at (rw (← w.as_slice.ensures.value) w.in_ok-put_violation.ensures.ok))
        | else-not-verdict+then-shows_true+in_ok-put_holds w ↦
            let holds = c.verdict.ensures.is ∙ ap Some w.if-not-verdict.false in
            rw (w.out-is, w.output-is)
            (pass_true all c.args.event m p name w0 w1 (g.W.Sink.written w.put_holds.new.out) c.args.output.now c.loop-p.output w.put_holds.new.output named i.passed holds
            (subst (λ (b : Bool). Passes w1 (g.W.Sink.written w.put_holds.new.out) c.loop-p.output w.put_holds.new.output (verdict_text b c.args.event name True)) (sym w.if-shows_true.true) w.in_ok-put_holds.ensures.ok))
        | else-not-verdict+else-shows_true w ↦
            let holds = c.verdict.ensures.is ∙ ap Some w.if-not-verdict.false in
            rw (w.out-is, w.output-is)
            (pass_true all c.args.event m p name w0 w1 w1 c.args.output.now c.loop-p.output c.loop-p.output named i.passed holds
            (subst (λ (b : Bool). Passes w1 w1 c.loop-p.output c.loop-p.output (verdict_text b c.args.event name True)) (sym w.if-shows_true.false) (passes_none w1 c.loop-p.output)))
      ];
      behind = elim c.if-not-verdict.branch [
        | then-not-verdict+in_ok-put_violation w ↦
            w.next-is ∙ ap (λ (n : ℕ). n + 1) i.behind ∙ sym (false_adds_one m p (c.verdict.ensures.is ∙ ap Some w.if-not-verdict.true))
        | else-not-verdict+then-shows_true+in_ok-put_holds w ↦ w.next-is ∙ i.behind ∙ sym (ap length (true_adds m p (c.verdict.ensures.is ∙ ap Some w.if-not-verdict.false)))
        | else-not-verdict+else-shows_true w ↦ w.next-is ∙ i.behind ∙ sym (ap length (true_adds m p (c.verdict.ensures.is ∙ ap Some w.if-not-verdict.false)))
      ];
      later = elim c.if-not-verdict.branch [
        | then-not-verdict+in_ok-put_violation w ↦ let n = w.put_violation.ensures.cause.later in rw w.out-is (omega (arith, n, i.later))
        | else-not-verdict+then-shows_true+in_ok-put_holds w ↦ let n = w.put_holds.ensures.cause.later in rw w.out-is (omega (arith, n, i.later))
        | else-not-verdict+else-shows_true w ↦ rw w.out-is i.later
      ];
    }
