use Rattle.qtl_truth.proofs.Past.{holds_past}
use Rattle.qtl_truth.proofs.laws.past_decides.Goals as goal

pub returns : goal.returns
returns c = holds_past
