use Rattle.sample_log.proofs.Pieces.{filled_more, filled_within}
use Rattle.sample_log.proofs.source.SampleSourceSource.read.Goals as goal

pub loop-filled-preserved : goal.loop-filled-preserved
loop-filled-preserved c = record {
  within = filled_within c.loop-filled.buf c.give-count.new.buf _ c.loop-filled.filled c.give-count.result c.loop-filled.invariant.within c.give-count.ensures.within;
  given = filled_more _ _ _ c.loop-filled.buf c.give-count.new.buf _ c.loop-filled.filled c.give-count.result c.loop-filled.invariant.within c.give-count.ensures.within c.loop-filled.invariant.given c.give-count.ensures.bytes;
}
