use Rattle.monitor_model.proofs.Telling.Given.{stands_give}
use Rattle.monitor_model.proofs.laws.stands_give.Goals as goal

pub returns : goal.returns
returns c = stands_give
