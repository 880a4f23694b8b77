use Rattle.std.proofs.Common.{◌≡◌, ◌∙◌, ap, sym, subst, inr, drop, length-drop, arith}
use Rattle.std.specs.Prelude.{Some, None}
use Rattle.log_reader.specs.Marks.{mark_of, mark_length}
use Rattle.log_reader.specs.State.{reading_of}
use Rattle.log_reader.proofs.StateLemmas.{behind_mark, mark_sound}
use Rattle.log_reader.proofs.MarkLemmas.{Unmarks, mark_goes, mark_waits, unmarks}
use Rattle.log_reader.proofs.state.State.has_begun.Goals as goal

pub returns-in_default-clause-waits : goal.returns-in_default-clause-waits
returns-in_default-clause-waits c = λ f bytes g.
    let s = c.args.self.now in
    let e : mark_length (mark_of (drop s.seen s.held.items)) s.ended ≡ None =
    ap (λ l. mark_length (mark_of l) s.ended) (sym (c.bytes_from.ensures ∙ ap (drop s.seen) c.deref.ensures.value)) ∙ sym c.mark_length.ensures ∙ c.in_default.is in
    inr (sym (mark_waits bytes (reading_of s) g c.if-self.false e))

pub returns-clause-sound : goal.returns-clause-sound
returns-clause-sound c =
    let s = c.args.self.now in
    let n = c.in-Some.length in
    let e : mark_length (mark_of (drop s.seen s.held.items)) s.ended ≡ Some n =
    ap (λ l. mark_length (mark_of l) s.ended) (sym (c.bytes_from.ensures ∙ ap (drop s.seen) c.deref.ensures.value)) ∙ sym c.mark_length.ensures ∙ c.in-Some.is in
    let u : Unmarks (drop s.seen s.held.items) s.ended (Some n) = subst (Unmarks (drop s.seen s.held.items) s.ended) e (unmarks (drop s.seen s.held.items) s.ended) in
    let long = u.0 in
    let held = s.held.ok.0 in
    let in_held = c.requires.sound.within in
    mark_sound s n (c.requires.sound.unread c.if-self.false) c.requires.sound (omega (arith, length-drop s.seen s.held.items))

pub returns-clause-goes : goal.returns-clause-goes
returns-clause-goes c = λ bytes g.
    let s = c.args.self.now in
    let n = c.in-Some.length in
    let e : mark_length (mark_of (drop s.seen s.held.items)) s.ended ≡ Some n =
    ap (λ l. mark_length (mark_of l) s.ended) (sym (c.bytes_from.ensures ∙ ap (drop s.seen) c.deref.ensures.value)) ∙ sym c.mark_length.ensures ∙ c.in-Some.is in
    behind_mark bytes s n (c.requires.sound.unread c.if-self.false) c.requires.sound (mark_goes bytes (reading_of s) g c.if-self.false n e)
