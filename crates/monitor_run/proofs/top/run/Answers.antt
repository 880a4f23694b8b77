use Rattle.std.proofs.Common.{◌∙◌}
use Rattle.run_model.proofs.Assembled.{assembled}
use Rattle.run_model.proofs.Assembled.{laws_of}
use Rattle.monitor_run.proofs.top.run.Goals as goal

pub returns-clause-ran : goal.returns-clause-ran
returns-clause-ran g c =
    let s = c.session-finished.ensures in
    let w = s.owes in
    assembled (laws_of c.one_answer.ensures.one_fault c.one_answer.ensures.never_both c.one_answer.ensures.one_specification) _ _ _ _ w.went (c.end-end.ensures ∙ w.ends) w.asks w.told s.lent w.file_cause w.write_cause s.later s.out_later w.report
