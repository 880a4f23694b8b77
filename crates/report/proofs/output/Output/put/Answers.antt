use Rattle.std.proofs.Common.{subst, sym, List, ℕ}
use Rattle.mon_base.proofs.Appending.{on_err}
use Rattle.report.specs.Passing.{Passes}
use Rattle.report.proofs.Passages.{passes_through, flushed_front}
use Rattle.report.proofs.output.Output.put.Goals as goal

pub returns-in_err-put_all-clause-err : goal.returns-in_err-put_all-clause-err
returns-in_err-put_all-clause-err g c =
    on_err c.from_residual-in_err-put_all.result (flushed_front _ _ _ c.args.self.now c.args.bytes.now c.in_ok-flush.ensures.ok c.in_err-put_all.ensures.err)

pub returns-clause-ok : goal.returns-clause-ok
returns-clause-ok g c =
    subst (λ (held : List ℕ). Passes (g.W.Sink.written c.args.out.now) (g.W.Sink.written c.put_all.new.sink) c.args.self.now held c.args.bytes.now) (sym c.in_ok-flush.ensures.emptied) (passes_through _ _ _ c.args.self.now c.args.bytes.now c.in_ok-flush.ensures.ok c.in_ok-put_all.ensures.ok)
