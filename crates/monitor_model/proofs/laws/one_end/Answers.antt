use Rattle.monitor_model.proofs.Ends.OneEnd.{one_end}
use Rattle.monitor_model.proofs.laws.one_end.Goals as goal

pub returns : goal.returns
returns c = λ s log i e a b plan p q. one_end s log i e plan a b p q
