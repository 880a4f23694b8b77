use Rattle.log_reader.proofs.GrowthLemmas.{take_bytes}
use Rattle.log_reader.proofs.laws.records_take_bytes.Goals as goal

pub returns : goal.returns
returns c = record { bounded = take_bytes }
