use Rattle.qtl_truth.proofs.Pinned.{interval_since}
use Rattle.qtl_truth.specs.Truth.{Holds}
use Rattle.qtl_truth.proofs.laws.interval_is_since.Goals as goal

pub returns : goal.returns
returns c = λ before log i nu f g. interval_since (λ j. Holds before log j nu f) (λ j. Holds before log j nu g) i
