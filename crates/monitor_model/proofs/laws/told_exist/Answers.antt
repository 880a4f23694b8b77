use Rattle.monitor_model.proofs.Books.Listed.{told_exist}
use Rattle.monitor_model.proofs.Telling.Tells.{stands_tell}
use Rattle.monitor_model.proofs.laws.told_exist.Goals as goal

pub returns : goal.returns
returns c = told_exist stands_tell
