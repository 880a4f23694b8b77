use Rattle.code_reclaim.proofs.Telling.{told_apart_tells}
use Rattle.code_reclaim.proofs.laws.told_apart_tells.Goals as goal

pub returns : goal.returns
returns c = told_apart_tells
