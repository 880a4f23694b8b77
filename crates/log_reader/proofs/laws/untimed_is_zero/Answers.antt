use Rattle.log_reader.proofs.TimeLemmas.{untimed}
use Rattle.log_reader.proofs.laws.untimed_is_zero.Goals as goal

pub returns : goal.returns
returns c = record { zero = untimed }
