use Rattle.monitor_model.proofs.Books.Order.{order_free}
use Rattle.monitor_model.proofs.laws.order_free.Goals as goal

pub returns : goal.returns
returns c = order_free
