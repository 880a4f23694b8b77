use Rattle.std.proofs.Common.{◌≡◌, ◌∙◌, ◌+◌, ◌-◌, ℕ, take, drop, sym, ap, arith}
use Rattle.sample_log.specs.Sample.{lines}
use Rattle.sample_log.proofs.Pieces.{given}
use Rattle.sample_log.proofs.source.SampleSource.give.Goals as goal

pub returns-clause-bytes : goal.returns-clause-bytes
returns-clause-bytes c =
    let m = c.min-count.ensures in
    let count : c.refill.new.self.next + c.min-count.result - c.refill.new.self.next ≡ c.min-count.result = omega arith in
    sym c.refill.ensures.same
    ∙ given c.refill.new.self.room c.args.buf.now c.copy_from_slice.new.self
    (lines c.refill.new.self.seed c.refill.new.self.timed (c.refill.new.self.begun + 1) (c.refill.new.self.events - c.refill.new.self.begun))
    c.refill.new.self.next c.min-count.result
    (c.copy_from_slice.ensures.after ∙ ap (λ (k : ℕ). take k (drop c.refill.new.self.next c.refill.new.self.room)) count)
    (omega arith)
