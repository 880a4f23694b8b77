use Rattle.std.proofs.Common.{◌∙◌, sym, subst}
use Rattle.log_reader.specs.Standing.{Goes, StandsIn}
use Rattle.log_reader.specs.State.{reading_of}
use Rattle.log_reader.proofs.StateLemmas.{sought_again, sought_as}
use Rattle.log_reader.proofs.state.State.next.Goals as goal

pub returns-in-Some-clause-sought : goal.returns-in-Some-clause-sought
returns-in-Some-clause-sought c = λ bytes s. sought_again bytes (reading_of c.args.self.now) c.in-Some.fault c.in-Some.is s

pub returns-then-not-has_begun-clause-sought : goal.returns-then-not-has_begun-clause-sought
returns-then-not-has_begun-clause-sought c = λ bytes s.
    let e = c.has_begun.ensures in
    let g : Goes bytes (reading_of c.args.self.now) = subst (StandsIn bytes (reading_of c.args.self.now)) c.in_default.is s in
    record {
      next = e.waits c.if-not-has_begun.true bytes g;
      stands = subst (StandsIn bytes (reading_of c.has_begun.new.self)) (sym (e.same.2 ∙ c.in_default.is)) (e.goes bytes g);
    }

pub returns-clause-sought : goal.returns-clause-sought
returns-clause-sought c = λ bytes s.
    let e = c.has_begun.ensures in
    let g : Goes bytes (reading_of c.args.self.now) = subst (StandsIn bytes (reading_of c.args.self.now)) c.in_default.is s in
    sought_as bytes (reading_of c.args.self.now) (reading_of c.has_begun.new.self) (reading_of c.next_record.new.self) c.next_record.result e.same.1 e.same.0 e.same.3
    (c.next_record.ensures.sought bytes (e.goes bytes g))
