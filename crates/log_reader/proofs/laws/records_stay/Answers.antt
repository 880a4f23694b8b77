use Rattle.log_reader.proofs.GrowthLemmas.{grows}
use Rattle.log_reader.proofs.laws.records_stay.Goals as goal

pub returns : goal.returns
returns c = record { grows = grows }
