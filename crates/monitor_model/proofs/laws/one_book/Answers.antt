use Rattle.monitor_model.proofs.Books.Exact.{book_once}
use Rattle.monitor_model.proofs.laws.one_book.Goals as goal

pub returns : goal.returns
returns c = book_once
