use Rattle.std.proofs.Common.{◌≡◌, ◌-◌, drop, length}
use Rattle.log_reader.specs.Fields.{quoted}
use Rattle.log_reader.specs.Quotes.{with_text}
use Rattle.log_reader.proofs.text.undouble.Given as goal

-- the text so far, and what the bytes to come spell
abbrev pub invariant-loop-i : goal.invariant-loop-i
invariant-loop-i l = with_text l.text.items (quoted (drop l.i l.bytes)) ≡ quoted l.bytes

abbrev pub decreases-loop-i : goal.decreases-loop-i
decreases-loop-i l = length l.bytes - l.i
