use Rattle.log_reader.proofs.TimeLemmas.{never_fall}
use Rattle.log_reader.proofs.laws.times_never_fall.Goals as goal

pub returns : goal.returns
returns c = record { rising = never_fall }
