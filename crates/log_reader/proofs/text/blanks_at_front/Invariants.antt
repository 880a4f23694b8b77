use Rattle.std.proofs.Common.{◌≡◌, ◌≤◌, ◌-◌, drop, length}
use Rattle.log_reader.specs.Fields.{drop_blanks}
use Rattle.log_reader.proofs.text.blanks_at_front.Given as goal

-- the bytes so far are blanks
abbrev pub invariant-loop-i : goal.invariant-loop-i
invariant-loop-i l = record { within : l.i ≤ length l.bytes; blanks : drop_blanks (drop l.i l.bytes) ≡ drop_blanks l.bytes }

abbrev pub decreases-loop-i : goal.decreases-loop-i
decreases-loop-i l = length l.bytes - l.i
