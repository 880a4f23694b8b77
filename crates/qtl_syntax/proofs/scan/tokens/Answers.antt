use Rattle.std.proofs.Common.{◌≡◌, ◌+◌, ◌-◌, ◌<◌, length, drop, sym, ◌∙◌, arith}
use Rattle.qtl_syntax.proofs.Once.{at_end, at_gap, stuck, one_more}
use Rattle.qtl_syntax.proofs.Steps.{drop_shorter}
use Rattle.qtl_syntax.proofs.scan.tokens.Goals as goal

pub returns-clause-cut : goal.returns-clause-cut
returns-clause-cut c =
    let none : length c.loop-rest.rest.now ≡ 0 = omega arith in
    at_end c.args.text.now c.loop-rest.all c.loop-rest.rest.now c.loop-rest.invariant.reached none

pub returns-then-here-eq0-clause-cut : goal.returns-then-here-eq0-clause-cut
returns-then-here-eq0-clause-cut c =
    at_gap c.args.text.now c.loop-rest.all c.loop-rest.rest.now c.behind_first-here.result.now c.loop-rest.invariant.reached
    (c.behind_first-here.ensures ∙ c.gap_count.ensures.behind) (omega arith)

pub returns-in-None-clause-refused : goal.returns-in-None-clause-refused
returns-in-None-clause-refused c =
    let s = rw c.in-None.is at c.in_ok-front.ensures.scan in
    let l = drop_shorter c.gap_count.result c.loop-rest.rest.now c.behind_first-here.result.now c.behind_first-here.ensures in
    let i = c.loop-rest.invariant.inside in
    let more : 0 < length c.behind_first-here.result.now = omega arith in
    let place : (length c.args.text.now - length c.behind_first-here.result.now) + length c.behind_first-here.result.now ≡ length c.args.text.now = omega (arith, l, i) in
    stuck c.args.text.now c.loop-rest.all c.loop-rest.rest.now c.behind_first-here.result.now (length c.args.text.now - length c.behind_first-here.result.now)
    c.loop-rest.invariant.reached (c.behind_first-here.ensures ∙ c.gap_count.ensures.behind) more (sym s) place

pub loop-rest-preserved : goal.loop-rest-preserved
loop-rest-preserved c =
    let s = rw c.in-Some.is at c.in_ok-front.ensures.scan in
    let l = drop_shorter c.gap_count.result c.loop-rest.rest.now c.behind_first-here.result.now c.behind_first-here.ensures in
    let m = drop_shorter c.in-Some.front.length c.behind_first-here.result.now c.behind_first-rest.result.now c.behind_first-rest.ensures in
    let i = c.loop-rest.invariant.inside in
    let more = one_more c.args.text.now c.loop-rest.all c.loop-rest.rest.now c.behind_first-here.result.now c.in-Some.front.token (drop c.in-Some.front.length c.behind_first-here.result.now)
    c.loop-rest.invariant.reached (c.behind_first-here.ensures ∙ c.gap_count.ensures.behind) s in
    record { reached = rw (c.in_ok-push-in-Some.ensures.ok, c.behind_first-rest.ensures) more; inside = omega (arith, l, m, i) }
