use Rattle.std.proofs.Common.{◌∙◌, codes, decimal}
use Rattle.std.proofs.lemmas.Result.{on_err_weaker}
use Rattle.mon_base.proofs.Appending.{on_err}
use Rattle.listeners.proofs.Parts.{front_first, front_second}
use Rattle.listeners.proofs.tally.put_tally.Goals as goal

pub returns-in_err-put_all-clause-err : goal.returns-in_err-put_all-clause-err
returns-in_err-put_all-clause-err g c =
    on_err c.from_residual.result (front_first _ _ (codes "tally ") _ c.in_err-put_all.ensures.err)

pub returns-in_err-put_all-2-clause-err : goal.returns-in_err-put_all-2-clause-err
returns-in_err-put_all-2-clause-err g c =
    let digits = rw (c.as_bytes.ensures.value ∙ c.format.ensures.text) at c.in_err-put_all-2.ensures.err in
    on_err c.from_residual-in_err-put_all-2.result
    (front_second _ _ _ (codes "tally ") _ c.in_ok-put_all.ensures.ok (front_first _ _ (decimal c.args.count) _ digits))

pub returns-clause-err : goal.returns-clause-err
returns-clause-err g c =
    let digits = rw (c.as_bytes.ensures.value ∙ c.format.ensures.text) at c.in_ok-put_all-2.ensures.ok in
    on_err_weaker c.put_all-3.result
    (λ end. front_second _ _ _ (codes "tally ") _ c.in_ok-put_all.ensures.ok (front_second _ _ _ (decimal c.args.count) _ digits end))
    c.put_all-3.ensures.err
