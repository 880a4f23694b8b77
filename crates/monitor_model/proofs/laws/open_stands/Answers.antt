use Rattle.monitor_model.proofs.Standing.Opening.{open_stands}
use Rattle.monitor_model.proofs.laws.open_stands.Goals as goal

pub returns : goal.returns
returns c = open_stands
