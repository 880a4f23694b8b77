use Rattle.std.proofs.Common.{arith}
use Rattle.sample_log.proofs.Pieces.{refilled}
use Rattle.sample_log.proofs.source.SampleSource.refill.Goals as goal

pub returns-then-self-clause-same : goal.returns-then-self-clause-same
returns-then-self-clause-same c =
    refilled c.args.self.now.seed c.args.self.now.timed c.args.self.now.begun c.args.self.now.events c.args.self.now.room c.write_line-self.new.room c.args.self.now.next c.write_line-self.result
    (omega arith) (omega arith) c.write_line-self.ensures.written
