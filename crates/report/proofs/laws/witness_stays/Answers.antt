use Rattle.report.proofs.Staying.{witness_stays}
use Rattle.report.proofs.laws.witness_stays.Goals as goal

pub returns : goal.returns
returns c = witness_stays
