-- What a source of the sample log has still to give.
use Rattle.std.specs.Prelude.{ℕ, ◌+◌, ◌-◌, List, ◌++◌, drop}
use Rattle.sample_log.specs.Sample.{lines}
use Rattle.sample_log.specs.declared.source.SampleSource.{SampleSource}

-- the rest of the line at hand, and the lines after it
abbrev pub left_of : SampleSource → List ℕ
left_of s = drop s.next s.room ++ lines s.seed s.timed (s.begun + 1) (s.events - s.begun)
