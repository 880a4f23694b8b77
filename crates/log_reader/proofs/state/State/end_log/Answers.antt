use Rattle.std.proofs.Common.{◌∙◌, sym, subst, inr}
use Rattle.log_reader.specs.Standing.{Fails}
use Rattle.log_reader.specs.State.{reading_of}
use Rattle.log_reader.specs.declared.fault.LogFault.TheVariants.{QuoteOpen}
use Rattle.log_reader.proofs.StateLemmas.{end_waits, end_blank, end_open, end_made, end_not_made}
use Rattle.log_reader.proofs.state.State.end_log.Goals as goal

pub returns-then-not-self-clause-turned : goal.returns-then-not-self-clause-turned
returns-then-not-self-clause-turned c = λ bytes g. end_waits bytes c.args.self.now g c.requires.started c.requires.end c.if-not-self.true

pub returns-then-is_blank-clause-turned : goal.returns-then-is_blank-clause-turned
returns-then-is_blank-clause-turned c = λ bytes g. end_blank bytes c.args.self.now g c.requires.started c.requires.end c.if-not-self.false (sym c.is_blank.ensures ∙ c.if-is_blank.true)

pub returns-then-is_inside-clause-turned : goal.returns-then-is_inside-clause-turned
returns-then-is_inside-clause-turned c = λ bytes g.
    inr (subst (λ n. Fails bytes (reading_of c.args.self.now) (QuoteOpen n)) (sym c.number.ensures) (end_open bytes c.args.self.now g c.requires.started c.requires.end c.if-not-self.false (sym c.is_inside.ensures ∙ c.if-is_inside.true)))

pub returns-in-Ok-clause-turned : goal.returns-in-Ok-clause-turned
returns-in-Ok-clause-turned c = λ bytes g.
    end_made bytes c.args.self.now g c.requires.started c.requires.end c.if-not-self.false (sym c.is_inside.ensures ∙ c.if-is_inside.false) (sym c.is_blank.ensures ∙ c.if-is_blank.false) c.end_record.new.self c.in-Ok.event c.in-Ok.ensures.ok

pub returns-in-Err-clause-turned : goal.returns-in-Err-clause-turned
returns-in-Err-clause-turned c = λ bytes g.
    end_not_made bytes c.args.self.now g c.requires.started c.requires.end c.if-not-self.false (sym c.is_inside.ensures ∙ c.if-is_inside.false) (sym c.is_blank.ensures ∙ c.if-is_blank.false) c.end_record.new.self c.in-Err.fault c.end_record.ensures.same c.in-Err.ensures.err
