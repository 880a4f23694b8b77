use Rattle.monitor_model.proofs.Standing.Stepping.{step_stands}
use Rattle.monitor_model.proofs.laws.step_stands.Goals as goal

pub returns : goal.returns
returns c = step_stands
