use Rattle.monitor_model.proofs.Telling.Tells.{stands_tell}
use Rattle.monitor_model.proofs.laws.stands_tell.Goals as goal

pub returns : goal.returns
returns c = stands_tell
