use Rattle.std.proofs.Common.{◌≡◌, ◌≤◌, take, length}
use Rattle.std.specs.Prelude.{reverse}
use Rattle.log_reader.specs.Fields.{drop_blanks}
use Rattle.log_reader.proofs.text.before_blanks.Given as goal

-- the bytes behind are blanks
abbrev pub invariant-loop-end : goal.invariant-loop-end
invariant-loop-end l = record { within : l.end ≤ length l.bytes; blanks : drop_blanks (reverse (take l.end l.bytes)) ≡ drop_blanks (reverse l.bytes) }

abbrev pub decreases-loop-end : goal.decreases-loop-end
decreases-loop-end l = l.end
