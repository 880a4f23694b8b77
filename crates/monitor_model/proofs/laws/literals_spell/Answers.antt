use Rattle.monitor_model.proofs.Spelling.Blocks.{code_holds}
use Rattle.monitor_model.proofs.laws.literals_spell.Goals as goal

pub returns : goal.returns
returns c = code_holds
