use Rattle.std.proofs.Common.{◌≡◌, ◌<◌, ◌^◌, drop}
use Rattle.log_reader.specs.Records.{decimal_from, if_time}
use Rattle.log_reader.proofs.time.time_of.Given as goal

-- the digits to come go on from the time so far
abbrev pub invariant-loop-byte : goal.invariant-loop-byte
invariant-loop-byte l = record { fits : l.time < 2 ^ 64; so_far : if_time (decimal_from l.time (drop l.byte-index l.text)) ≡ if_time (decimal_from 0 l.text) }
