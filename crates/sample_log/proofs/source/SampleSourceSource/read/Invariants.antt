use Rattle.std.proofs.Common.{◌≡◌, ◌++◌, ◌-◌, ◌≤◌, length, take}
use Rattle.sample_log.specs.Left.{left_of}
use Rattle.sample_log.proofs.source.SampleSourceSource.read.Given as goal

abbrev pub invariant-loop-filled : goal.invariant-loop-filled
invariant-loop-filled l = record { within : l.filled ≤ length l.buf; given : left_of l.initial.self ≡ take l.filled l.buf ++ left_of l.self }

abbrev pub decreases-loop-filled : goal.decreases-loop-filled
decreases-loop-filled l = length l.buf - l.filled
