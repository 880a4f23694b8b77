use Rattle.timed_bits.proofs.Ages.{age_drop-ages, age_cap-ages, any_time-says, at_time-says, stamp-ages}
use Rattle.timed_bits.proofs.laws.operations.Goals as goal

pub returns : goal.returns
returns c = record { age_drop = age_drop-ages; age_cap = age_cap-ages; any_time = any_time-says; at_time = at_time-says; stamp = stamp-ages }
