use Rattle.monitor_model.proofs.Standing.Beginning.{prefix_stands}
use Rattle.monitor_model.proofs.laws.prefix_stands.Goals as goal

pub returns : goal.returns
returns c = prefix_stands
