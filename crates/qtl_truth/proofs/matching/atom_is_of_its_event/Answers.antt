use Rattle.qtl_truth.proofs.Places.{atom_at}
use Rattle.qtl_truth.proofs.matching.atom_is_of_its_event.Goals as goal

pub returns : goal.returns
returns c = atom_at
