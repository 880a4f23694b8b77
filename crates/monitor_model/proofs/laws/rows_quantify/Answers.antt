use Rattle.monitor_model.proofs.Spelling.Blocks.{some_of_block, each_of_block}
use Rattle.monitor_model.proofs.laws.rows_quantify.Goals as goal

pub returns : goal.returns
returns c = λ first n h result p q. (some_of_block first n h result p q, each_of_block first n h result p q)
