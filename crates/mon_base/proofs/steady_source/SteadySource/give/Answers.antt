use Rattle.std.proofs.Common.{◌∙◌, ◌+◌, ◌-◌, ap, take, drop, ℕ, List, arith}
use Rattle.mon_base.proofs.Fronts.{piece_taken, past_end}
use Rattle.mon_base.proofs.steady_source.SteadySource.give.Goals as goal

pub returns-clause-bytes : goal.returns-clause-bytes
returns-clause-bytes c =
    let source = c.args.self.now in
    let given = source.given in
    let count = c.min-count.result in
    let copied = c.copy_from_slice.ensures.after ∙ ap (λ (xs : List ℕ). take (given + count - given) (drop given xs)) c.deref.ensures.value in
    piece_taken source.bytes.items c.args.buf.now c.copy_from_slice.new.self given count (omega arith) copied

pub returns-clause-end : goal.returns-clause-end
returns-clause-end c = λ z. past_end c.args.self.now.bytes.items _ (omega arith)
