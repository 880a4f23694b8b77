use Rattle.std.proofs.Common.{[], ◌∷◌, subst}
use Rattle.std.specs.Prelude.{IfSome, string_bytes}
use Rattle.qtl_syntax.specs.Tree.{Text}
use Rattle.run_model.specs.Uses.{AreAsked, given}
use Rattle.settings.specs.Asked.{asked_by}
use Rattle.monitor_run.specs.Opening.{SpecIs, StopsReading}
use Rattle.monitor_run.proofs.Accepting.Specifications.{asks_read, read_ok, read_err, told_stopped}
use Rattle.monitor_run.proofs.specification.read_specification.Goals as goal

pub returns-clause-ok : goal.returns-clause-ok
returns-clause-ok g c =
    let texts = g.F.Files.texts c.args.files.now in
    let is = subst (λ (name : Text). IfSome texts (λ files. SpecIs files name c.in-Ok.text.items)) c.as_str.ensures.value c.in-Ok.ensures.ok in
    read_ok (asked_by c.args.settings.now) c.judge_in.result texts c.as_slice.result.now (rw c.as_slice.ensures.value is) c.judge_in.ensures.ok

pub returns-clause-err : goal.returns-clause-err
returns-clause-err g c =
    let texts = g.F.Files.texts c.args.files.now in
    let is = subst (λ (name : Text). IfSome texts (λ files. SpecIs files name c.in-Ok.text.items)) c.as_str.ensures.value c.in-Ok.ensures.ok in
    read_err c.judge_in.result texts (string_bytes c.args.settings.now.spec) c.as_slice.result.now (rw c.as_slice.ensures.value is) c.judge_in.ensures.err

pub returns-clause-uses : goal.returns-clause-uses
returns-clause-uses g c =
    let (uses, asked, told) = c.in-Ok.ensures.uses in (
      uses,
      asks_read (string_bytes c.args.settings.now.spec) c.judge_in.result c.as_slice.result.now uses (subst (λ (name : Text). AreAsked (given name ∷ []) uses) c.as_str.ensures.value asked) c.judge_in.ensures.err,
      told,
    )

pub returns-in-Err-clause-err : goal.returns-in-Err-clause-err
returns-in-Err-clause-err g c =
    let texts = g.F.Files.texts c.args.files.now in
    let stops = subst (λ (name : Text). IfSome texts (λ files. StopsReading files name c.in-Err.halt)) c.as_str.ensures.value c.in-Err.ensures.stops in
    told_stopped texts (string_bytes c.args.settings.now.spec) c.in-Err.halt stops
