use Rattle.qtl_truth.proofs.Pinned.{unfold_since}
use Rattle.qtl_truth.specs.Truth.{Holds}
use Rattle.qtl_truth.proofs.laws.since_unfolds.Goals as goal

pub returns : goal.returns
returns c = λ before log i nu f g one. unfold_since (λ j. Holds before log j nu f) (λ j. Holds before log j nu g) i one
