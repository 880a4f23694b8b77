use Rattle.std.proofs.Common.{◌∙◌, ◌+◌, ap, sym, arith, refl}
use Rattle.log_reader.specs.Places.{place_of}
use Rattle.log_reader.proofs.StateLemmas.{blank_is, blank_goes, feed_made, feed_not_made, span_empty}
use Rattle.log_reader.proofs.state.State.end_line.Goals as goal

pub returns-then-is_blank-clause-sound : goal.returns-then-is_blank-clause-sound
returns-then-is_blank-clause-sound c =
    let s = c.args.self.now in
    let at = c.requires.at in
    let blank = blank_is s.texts s.place (sym c.is_blank.ensures ∙ c.if-is_blank.true) in
    record {
      in_order = omega arith;
      within = omega (arith, at.here);
      short = omega arith;
      placed = ap place_of (span_empty (s.seen + 1) s.held.items) ∙ sym blank.1;
      unread = λ e. refl;
    }

pub returns-then-is_blank-clause-turned : goal.returns-then-is_blank-clause-turned
returns-then-is_blank-clause-turned c = λ bytes g.
    let at = c.requires.at in
    blank_goes bytes c.args.self.now g at.started at.here c.requires.feed at.out (sym c.is_blank.ensures ∙ c.if-is_blank.true)

pub returns-in-Ok-clause-later : goal.returns-in-Ok-clause-later
returns-in-Ok-clause-later c = let l = c.in-Ok.ensures.ok.later in omega arith

pub returns-in-Ok-clause-turned : goal.returns-in-Ok-clause-turned
returns-in-Ok-clause-turned c = λ bytes g.
    let at = c.requires.at in
    feed_made bytes c.args.self.now g at.started at.here c.requires.feed at.out c.end_record.new.self c.in-Ok.event (sym c.is_blank.ensures ∙ c.if-is_blank.false) c.in-Ok.ensures.ok

pub returns-in-Err-clause-turned : goal.returns-in-Err-clause-turned
returns-in-Err-clause-turned c = λ bytes g.
    let at = c.requires.at in
    feed_not_made bytes c.args.self.now g at.started at.here c.requires.feed at.out c.end_record.new.self c.in-Err.fault (sym c.is_blank.ensures ∙ c.if-is_blank.false) c.end_record.ensures.same c.in-Err.ensures.err
