use Rattle.std.proofs.Common.{◌∙◌, Some, None, ap, sym, refl}
use Rattle.std.specs.Prelude.{option_map}
use Rattle.settings.specs.Asked.{origin_in, sample_of}
use Rattle.settings.proofs.Cutting.{cut_once, sample_of-numbers}
use Rattle.settings.proofs.reading.sample_in.Goals as goal

pub returns-in_err-seed : goal.returns-in_err-seed
returns-in_err-seed c =
    let cut = rw c.in_err-seed.was at (cut_once c.args.value.now c.split_once.result c.split_once.ensures.cases) in
    ap (option_map origin_in) c.from_residual.ensures ∙ sym (ap sample_of cut)

pub returns-in_err-seed-2 : goal.returns-in_err-seed-2
returns-in_err-seed-2 c =
    let cut = rw c.in_ok-seed.was at (cut_once c.args.value.now c.split_once.result c.split_once.ensures.cases) in
    ap (option_map origin_in) c.from_residual-in_err-seed-2.ensures
    ∙ sym (ap sample_of cut.0 ∙ sample_of-numbers c.in_ok-seed.seed.now c.in_ok-seed.events.now None _ c.in_err-seed-2.ensures.value refl)

pub returns-in_err-events : goal.returns-in_err-events
returns-in_err-events c =
    let cut = rw c.in_ok-seed.was at (cut_once c.args.value.now c.split_once.result c.split_once.ensures.cases) in
    ap (option_map origin_in) c.from_residual-in_err-events.ensures
    ∙ sym (ap sample_of cut.0 ∙ sample_of-numbers c.in_ok-seed.seed.now c.in_ok-seed.events.now (Some c.in_ok-seed-2.seed) None c.in_ok-seed-2.ensures.value c.in_err-events.ensures.value)

pub returns : goal.returns
returns c =
    let cut = rw c.in_ok-seed.was at (cut_once c.args.value.now c.split_once.result c.split_once.ensures.cases) in
    sym (ap sample_of cut.0 ∙ sample_of-numbers c.in_ok-seed.seed.now c.in_ok-seed.events.now (Some c.in_ok-seed-2.seed) (Some c.in_ok-events.events) c.in_ok-seed-2.ensures.value c.in_ok-events.ensures.value)
