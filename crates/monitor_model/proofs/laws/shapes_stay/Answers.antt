use Rattle.monitor_model.proofs.Shapes.Staying.{shapes_stay}
use Rattle.monitor_model.proofs.laws.shapes_stay.Goals as goal

pub returns : goal.returns
returns c = shapes_stay
