use Rattle.timed_bits.proofs.Ages.{age_drop-now, age_cap-now, any_time-same}
use Rattle.timed_bits.proofs.laws.shortcuts.Goals as goal

pub returns : goal.returns
returns c = record { drop_now = age_drop-now; cap_now = age_cap-now; any_time = any_time-same }
