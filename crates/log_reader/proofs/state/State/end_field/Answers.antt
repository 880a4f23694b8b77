use Rattle.std.proofs.Common.{◌+◌, ◌-◌, sym, subst, arith, inr, length, ◌≤◌, ◌<◌}
use Rattle.log_reader.specs.Standing.{Fails}
use Rattle.log_reader.specs.State.{reading_of}
use Rattle.log_reader.specs.declared.place.Place.TheVariants.{Before}
use Rattle.log_reader.specs.declared.fault.LogFault.TheVariants.{TooManyFields}
use Rattle.log_reader.proofs.StateLemmas.{many_fields, field_goes, field_behind}
use Rattle.log_reader.proofs.state.State.end_field.Goals as goal

pub returns-then-len-ge-MAX_COMMAS-clause-turned : goal.returns-then-len-ge-MAX_COMMAS-clause-turned
returns-then-len-ge-MAX_COMMAS-clause-turned c = λ bytes g.
    let at = c.requires.at in
    let s = c.args.self.now in
    let many : 63 ≤ length s.texts = omega (arith, c.if-len-ge-MAX_COMMAS.true, c.len.ensures) in
    inr (subst (λ n. Fails bytes (reading_of s) (TooManyFields n)) (sym c.number.ensures) (many_fields bytes s g at.started at.here c.requires.comma at.out c.requires.short many))

pub returns-clause-turned : goal.returns-clause-turned
returns-clause-turned c = λ bytes g.
    let at = c.requires.at in
    let s = c.args.self.now in
    let m = c.add_text.new.self in
    let few : length s.texts < 63 = omega (arith, c.if-len-ge-MAX_COMMAS.false, c.len.ensures) in
    let places = c.add_text.ensures.places in
    field_goes bytes s g at.started at.here (record m { before = m.before + (m.seen - m.from + 1); seen = m.seen + 1; from = m.seen + 1; place = Before }) c.requires.comma at.out c.requires.short few
    (field_behind s m at.sound c.add_text.ensures.same places.0 places.1 places.2 places.4 places.5 c.in_ok-add_text.ensures.ok)
