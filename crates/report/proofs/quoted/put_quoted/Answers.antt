use Rattle.std.proofs.Common.{[], ◌∷◌, ◌++◌}
use Rattle.std.specs.List.{flat_map}
use Rattle.std.proofs.lemmas.Result.{on_ok_weaker, on_err_weaker}
use Rattle.mon_base.proofs.Appending.{on_err}
use Rattle.report.specs.Lines.{quoted_byte}
use Rattle.report.proofs.Passages.{passes_trans, passes_front, front_before}
use Rattle.report.proofs.quoted.put_quoted.Goals as goal

pub returns-in_err-put-clause-err : goal.returns-in_err-put-clause-err
returns-in_err-put-clause-err g c =
    on_err c.from_residual.result (front_before _ _ c.args.output.now (34 ∷ []) (flat_map quoted_byte c.args.text.now ++ 34 ∷ []) c.in_err-put.ensures.err)

pub returns-in_err-put_inside-clause-err : goal.returns-in_err-put_inside-clause-err
returns-in_err-put_inside-clause-err g c =
    let inside = flat_map quoted_byte c.args.text.now in
    on_err c.from_residual-in_err-put_inside.result
    (passes_front _ _ _ c.args.output.now c.put.new.self (34 ∷ []) (inside ++ 34 ∷ []) c.in_ok-put.ensures.ok (front_before _ _ c.put.new.self inside (34 ∷ []) c.in_err-put_inside.ensures.err))

pub returns-clause-ok : goal.returns-clause-ok
returns-clause-ok g c =
    let inside = flat_map quoted_byte c.args.text.now in
    on_ok_weaker c.put-2.result
    (λ h. passes_trans _ _ _ c.args.output.now c.put.new.self c.put-2.new.self (34 ∷ []) (inside ++ 34 ∷ []) c.in_ok-put.ensures.ok (passes_trans _ _ _ c.put.new.self c.put_inside.new.output c.put-2.new.self inside (34 ∷ []) c.in_ok-put_inside.ensures.ok h))
    c.put-2.ensures.ok

pub returns-clause-err : goal.returns-clause-err
returns-clause-err g c =
    let inside = flat_map quoted_byte c.args.text.now in
    on_err_weaker c.put-2.result
    (λ f. passes_front _ _ _ c.args.output.now c.put.new.self (34 ∷ []) (inside ++ 34 ∷ []) c.in_ok-put.ensures.ok (passes_front _ _ _ c.put.new.self c.put_inside.new.output inside (34 ∷ []) c.in_ok-put_inside.ensures.ok f))
    c.put-2.ensures.err
