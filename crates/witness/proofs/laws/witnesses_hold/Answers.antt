use Rattle.witness.proofs.Showing.Holding.{witnesses_hold}
use Rattle.witness.proofs.laws.witnesses_hold.Goals as goal

pub returns : goal.returns
returns c = witnesses_hold
