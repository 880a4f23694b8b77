use Rattle.std.proofs.Common.{◌∷◌, [], append_assoc, rules}
use Rattle.settings.specs.Asked.{pieces}
use Rattle.settings.proofs.Cutting.{cut_once}
use Rattle.settings.proofs.names.pieces_in.Goals as goal

pub loop-name-preserved : goal.loop-name-preserved
loop-name-preserved c =
    let cut = cut_once c.loop-name.rest.now c.split_once.result c.split_once.ensures.cases in
    let here = rw c.in-Some.is at cut in
    let grouped = append_assoc c.loop-name.names (c.in-Some.name.now ∷ []) (pieces c.in-Some.behind.now) in
    record { utf8 = search rules; cut = (cc (here.0, grouped, c.in_ok-push.ensures.ok, c.in_ok-from_bytes.ensures)) }

pub returns : goal.returns
returns c =
    let cut = cut_once c.loop-name.rest.now c.split_once.result c.split_once.ensures.cases in
    let here = rw c.in_default.is at cut in
    cc (here, c.in_ok-push-2.ensures.ok, c.in_ok-from_bytes-2.ensures)
