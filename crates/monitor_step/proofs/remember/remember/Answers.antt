use Rattle.std.proofs.Common.{◌+◌, sym}
use Rattle.std.proofs.lemmas.List.{get_or_read}
use Rattle.monitor_step.proofs.Rows.Kept.{forward_more, forward_within}
use Rattle.monitor_step.proofs.remember.remember.Goals as goal

pub loop-i-preserved : goal.loop-i-preserved
loop-i-preserved c =
    let i = c.loop-i.invariant in
    let old = c.args.handles.now in
    let hs = c.loop-i.handles in
    let h = c.index-handles-remembered.result in
    let within = forward_within old hs c.args.remembered c.loop-i.i i c.requires c.loop-i-test.true in
    let read = get_or_read hs (c.args.remembered + c.loop-i.i) h within c.index-handles-remembered.is 0 in
    forward_more old hs c.args.remembered c.loop-i.i h i c.requires c.loop-i-test.true (sym read)
