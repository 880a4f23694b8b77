use Rattle.std.proofs.Common.{◌<◌, ◌∙◌, sym, subst, arith, inr}
use Rattle.std.specs.Prelude.{vec_len}
use Rattle.log_reader.specs.Standing.{Fails}
use Rattle.log_reader.specs.State.{reading_of}
use Rattle.log_reader.specs.declared.fault.LogFault.TheVariants.{RecordTooLong, AfterQuote}
use Rattle.log_reader.proofs.StateLemmas.{long_record, misplaced, turned_as}
use Rattle.log_reader.proofs.state.State.turn.Goals as goal

pub returns-then-self-len-clause-turned : goal.returns-then-self-len-clause-turned
returns-then-self-len-clause-turned c = λ bytes g.
    let e = c.scan_field.ensures in
    turned_as bytes (reading_of c.args.self.now) (reading_of c.scan_field.new.self) (reading_of c.end_log.new.self) c.end_log.result e.same.timed e.same.ended e.given
    (c.end_log.ensures.turned bytes (e.goes bytes g))

pub returns-then-is_at_line_end-clause-turned : goal.returns-then-is_at_line_end-clause-turned
returns-then-is_at_line_end-clause-turned c = λ bytes g.
    let e = c.scan_field.ensures in
    turned_as bytes (reading_of c.args.self.now) (reading_of c.scan_field.new.self) (reading_of c.end_line.new.self) c.end_line.result e.same.timed e.same.ended e.given
    (c.end_line.ensures.turned bytes (e.goes bytes g))

pub returns-then-length-ge-MAX_LINE-clause-turned : goal.returns-then-length-ge-MAX_LINE-clause-turned
returns-then-length-ge-MAX_LINE-clause-turned c = λ bytes g.
    let e = c.scan_field.ensures in
    let m = c.scan_field.new.self in
    let within = e.sound.within in
    let here : m.seen < vec_len m.held = omega (arith, c.if-self-len.false, c.len.ensures) in
    inr (subst (λ n. Fails bytes (reading_of m) (RecordTooLong n)) (sym c.number.ensures)
    (long_record bytes m (e.goes bytes g) (e.same.is_begun ∙ c.requires.started) here (sym c.is_at_line_end.ensures ∙ c.if-is_at_line_end.false)
    (omega (arith, c.if-length-ge-MAX_LINE.true, c.length.ensures))))

pub returns-then-next_byte-eq44-clause-turned : goal.returns-then-next_byte-eq44-clause-turned
returns-then-next_byte-eq44-clause-turned c = λ bytes g.
    let e = c.scan_field.ensures in
    turned_as bytes (reading_of c.args.self.now) (reading_of c.scan_field.new.self) (reading_of c.end_field.new.self) c.end_field.result e.same.timed e.same.ended e.given
    (c.end_field.ensures.turned bytes (e.goes bytes g))

pub returns-clause-turned : goal.returns-clause-turned
returns-clause-turned c = λ bytes g.
    let e = c.scan_field.ensures in
    let m = c.scan_field.new.self in
    let within = e.sound.within in
    let here : m.seen < vec_len m.held = omega (arith, c.if-self-len.false, c.len.ensures) in
    let short : (reading_of m).length < 65536 = omega (arith, c.if-length-ge-MAX_LINE.false, c.length.ensures) in
    inr (subst (λ n. Fails bytes (reading_of m) (AfterQuote n)) (sym c.number-2.ensures)
    (misplaced bytes m (e.goes bytes g) (e.same.is_begun ∙ c.requires.started) here (e.stops here short) (λ f. c.if-next_byte-eq44.false (c.next_byte.ensures ∙ f)) (sym c.is_at_line_end.ensures ∙ c.if-is_at_line_end.false) short))
