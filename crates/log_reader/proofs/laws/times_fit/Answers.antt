use Rattle.log_reader.proofs.TimeLemmas.{fit}
use Rattle.log_reader.proofs.laws.times_fit.Goals as goal

pub returns : goal.returns
returns c = record { fit = fit }
