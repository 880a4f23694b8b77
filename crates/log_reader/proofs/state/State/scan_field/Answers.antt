use Rattle.std.proofs.Common.{◌≡◌, ◌≤◌, ◌+◌, ◌-◌, ◌∙◌, sym, ap, drop, length, arith, true, false}
use Rattle.std.specs.Prelude.{Some}
use Rattle.log_reader.specs.Places.{place_of, run_on}
use Rattle.log_reader.specs.State.{span, reading_of}
use Rattle.log_reader.proofs.Spans.{split_rest, span_join, span_length}
use Rattle.log_reader.proofs.RunLemmas.{goes_run, place_run}
use Rattle.log_reader.proofs.state.State.scan_field.Goals as goal

pub returns-clause-goes : goal.returns-clause-goes
returns-clause-goes c =
    let s = c.args.self.now in
    let seen = c.scan-scanned.result.seen in
    let held = s.held.items in
    let order = c.requires.sound.in_order in
    let after = c.scan-scanned.ensures.after in
    let within : seen ≤ length held = omega (arith, c.scan-scanned.ensures.within, c.min-end.ensures, c.len.ensures) in
    let short : s.before + (seen - s.from) ≤ 65536 = omega (arith, c.scan-scanned.ensures.within, c.min-end.ensures, c.saturating_add.ensures, c.requires.sound.short) in
    λ bytes g.
    goes_run bytes (span s.seen seen held) (reading_of s) (s.before + (seen - s.from)) (span s.from seen held) c.scan-scanned.result.place (drop seen held)
    g c.requires.begun (split_rest s.seen seen held after)
    (ap (λ l. run_on (Some s.place) (span s.seen seen l)) (sym c.deref.ensures.value) ∙ c.scan-scanned.ensures.run)
    (let l = span_length s.seen seen held after within in omega arith)
    (span_join s.from s.seen seen held order after)
    short

pub returns-clause-sound : goal.returns-clause-sound
returns-clause-sound c =
    let s = c.args.self.now in
    let seen = c.scan-scanned.result.seen in
    let held = s.held.items in
    let sound = c.requires.sound in
    let after = c.scan-scanned.ensures.after in
    record {
      in_order = omega (arith, sound.in_order, after);
      within = omega (arith, c.scan-scanned.ensures.within, c.min-end.ensures, c.len.ensures);
      short = omega (arith, c.scan-scanned.ensures.within, c.min-end.ensures, c.saturating_add.ensures, sound.short);
      placed =
          ap place_of (span_join s.from s.seen seen held sound.in_order after)
          ∙ place_run (span s.seen seen held) (span s.from s.seen held) c.scan-scanned.result.place
          (ap (λ p. run_on (Some p) (span s.seen seen held)) sound.placed ∙ ap (λ l. run_on (Some s.place) (span s.seen seen l)) (sym c.deref.ensures.value) ∙ c.scan-scanned.ensures.run);
      unread = λ e. absurd (let never : true ≡ false = sym c.requires.begun ∙ e in let n : ⊥ = cc in n);
    }
