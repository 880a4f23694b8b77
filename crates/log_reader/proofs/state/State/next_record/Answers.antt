use Rattle.std.proofs.Common.{◌≡◌, ◌∙◌, ap, sym, subst}
use Rattle.std.specs.Prelude.{Ok, Err}
use Rattle.log_reader.specs.Standing.{Sought}
use Rattle.log_reader.specs.State.{reading_of, given_after, Turned}
use Rattle.log_reader.specs.declared.state.Turn.TheVariants.{Wait, Found}
use Rattle.log_reader.proofs.StateLemmas.{sought_wait, sought_found, sought_fault}
use Rattle.log_reader.proofs.state.State.next_record.Goals as goal

pub returns-in-Ok-Wait-clause-sought : goal.returns-in-Ok-Wait-clause-sought
returns-in-Ok-Wait-clause-sought c = λ bytes g.
    let i = c.turns.invariant in
    let e : c.turn.result ≡ Ok Wait = c.in-Ok-Wait.is ∙ ap (λ t. Ok t) c.in-Ok-Wait.field-0-is in
    sought_wait bytes (reading_of c.args.self.now) (reading_of c.turns.self) (reading_of c.turn.new.self) i.timed i.ended i.given (c.turn.ensures.same.fault ∙ i.right)
    (subst (Turned bytes (reading_of c.turns.self) (reading_of c.turn.new.self)) e (c.turn.ensures.turned bytes (i.goes bytes g)))

pub returns-in-Ok-Found-clause-sought : goal.returns-in-Ok-Found-clause-sought
returns-in-Ok-Found-clause-sought c = λ bytes g.
    let i = c.turns.invariant in
    let e : c.turn.result ≡ Ok (Found c.in-Ok-Found.event) = c.in-Ok-Found.is ∙ ap (λ t. Ok t) c.in-Ok-Found.field-0-is in
    sought_found bytes (reading_of c.args.self.now) (reading_of c.turns.self) (reading_of c.turn.new.self) c.in-Ok-Found.event i.timed i.ended i.given (c.turn.ensures.same.fault ∙ i.right)
    (subst (Turned bytes (reading_of c.turns.self) (reading_of c.turn.new.self)) e (c.turn.ensures.turned bytes (i.goes bytes g)))

pub returns-in-Err-clause-sought : goal.returns-in-Err-clause-sought
returns-in-Err-clause-sought c = λ bytes g.
    let i = c.turns.invariant in
    let same = c.turn.ensures.same in
    let e : c.turn.result ≡ Err c.in-Err.fault = c.in-Err.is in
    subst (λ o. Sought bytes (reading_of c.args.self.now) (record (reading_of c.turn.new.self) { fault = o }) (Err c.in-Err.fault)) (sym c.lasting-self.ensures)
    (sought_fault bytes (reading_of c.args.self.now) (reading_of c.turns.self) (reading_of c.turn.new.self) c.in-Err.fault i.timed i.ended i.given same.timed same.ended
    (c.turn.ensures.given ∙ ap (given_after c.turns.self.given) e) (subst (Turned bytes (reading_of c.turns.self) (reading_of c.turn.new.self)) e (c.turn.ensures.turned bytes (i.goes bytes g))))
