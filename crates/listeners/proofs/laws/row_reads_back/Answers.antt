use Rattle.csv.proofs.RoundTrip.{read-write}
use Rattle.listeners.specs.Lines.{csv_fields}
use Rattle.listeners.proofs.laws.row_reads_back.Goals as goal

pub returns : goal.returns
returns c = λ told behind. read-write (csv_fields told) behind
