use Rattle.report.proofs.OneWitness.{one_witness}
use Rattle.report.proofs.laws.one_witness.Goals as goal

pub returns : goal.returns
returns c = one_witness
