use Rattle.mon_base.proofs.Appending.{on_err}
use Rattle.report.proofs.Passages.{front_flushed}
use Rattle.monitor_run.proofs.last.send_spec_stop.Goals as goal

pub returns-in_err-flush-clause-err : goal.returns-in_err-flush-clause-err
returns-in_err-flush-clause-err g c =
    on_err c.from_residual-in_err-flush.result (front_flushed _ _ _ c.args.output.now c.put_spec_stop.new.output _ c.in_ok-put_spec_stop.ensures.ok c.in_err-flush.ensures.err)
