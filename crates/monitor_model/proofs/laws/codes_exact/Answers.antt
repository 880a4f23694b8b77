use Rattle.monitor_model.proofs.Books.Exact.{codes_exact}
use Rattle.monitor_model.proofs.laws.codes_exact.Goals as goal

pub returns : goal.returns
returns c = codes_exact
