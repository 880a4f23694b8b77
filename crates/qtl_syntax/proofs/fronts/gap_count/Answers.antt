use Rattle.std.proofs.Common.{◌≡◌, drop, ap, ◌∙◌}
use Rattle.std.proofs.lemmas.List.{drop-drop}
use Rattle.qtl_syntax.specs.Cuts.{past_gap}
use Rattle.qtl_syntax.proofs.fronts.gap_count.Goals as goal

pub loop-i-preserved : goal.loop-i-preserved
loop-i-preserved c =
    let step : past_gap c.loop-i.in_comment (drop c.loop-i.i c.args.bytes.now) ≡ past_gap c.in-Some.after (drop 1 (drop c.loop-i.i c.args.bytes.now)) =
    rw c.behind_first.ensures at c.in-Some.ensures.goes_on in
    c.loop-i.invariant ∙ (step ∙ ap (past_gap c.in-Some.after) (drop-drop 1 c.loop-i.i c.args.bytes.now))
