use Rattle.monitor_model.proofs.Books.Exact.{codes_exact}
use Rattle.monitor_model.proofs.Books.Listed.{told_exist}
use Rattle.monitor_model.proofs.Books.Order.{order_free}
use Rattle.monitor_model.proofs.Reading.Answered.{reads_answer}
use Rattle.monitor_model.proofs.Standing.Stepping.{step_stands}
use Rattle.monitor_model.proofs.Telling.Tells.{stands_tell}
use Rattle.monitor_model.proofs.laws.reads_answer.Goals as goal

pub returns : goal.returns
returns c = reads_answer stands_tell (told_exist stands_tell) codes_exact order_free step_stands
