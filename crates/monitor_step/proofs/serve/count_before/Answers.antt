use Rattle.subformulas.proofs.Entries.{all_later}
use Rattle.monitor_step.proofs.serve.count_before.Goals as goal

pub returns-then-variable-entry-clause-back : goal.returns-then-variable-entry-clause-back
returns-then-variable-entry-clause-back c =
    all_later c.args.variable c.args.entries.now c.loop-place.place (record { variable = 0; arg = 0 }) c.loop-place-test.true c.if-variable-entry.true c.loop-place.invariant.order
