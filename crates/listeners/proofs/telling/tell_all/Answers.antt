use Rattle.std.proofs.Common.{◌<◌, length, arith}
use Rattle.mon_base.proofs.Appending.{on_err}
use Rattle.listeners.proofs.Walking.{each_step, same_behind, stops_here, map_stays}
use Rattle.listeners.proofs.telling.tell_all.Goals as goal

pub loop-i-preserved : goal.loop-i-preserved
loop-i-preserved g c =
    let inv = c.loop-i.invariant in
    let old_len = c.args.listeners.now.ok.0 in
    let cur_len = c.loop-i.listeners.ok.0 in
    let old_flags = c.args.failed.now.ok.0 in
    let cur_flags = c.loop-i.failed.ok.0 in
    let equal = c.requires in
    let in_old : c.loop-i.i < length c.args.listeners.now.items = omega arith in
    let in_cur : c.loop-i.i < length c.loop-i.listeners.items = omega arith in
    let in_old_flags : c.loop-i.i < length c.args.failed.now.items = omega arith in
    let in_cur_flags : c.loop-i.i < length c.loop-i.failed.items = omega arith in
    let here = c.index_mut.ensures.value in
    record {
      before = each_step _ _ _ _ _ _ _ _ _ _ in_old in_cur in_old_flags in_cur_flags
          inv.before inv.same inv.same_flags here c.index.ensures c.in_ok-failed.ensures.ok;
      same = same_behind _ _ _ _ in_old in_cur inv.same;
      same_flags = same_behind _ _ _ _ in_old_flags in_cur_flags inv.same_flags;
      names = map_stays _ _ _ _ _ _ here c.tell_unflagged.ensures.name inv.names;
      finished = map_stays _ _ _ _ _ _ here c.tell_unflagged.ensures.finished inv.finished;
      count = inv.count;
      flags = inv.flags;
    }

pub returns-in_err-failed-clause-err : goal.returns-in_err-failed-clause-err
returns-in_err-failed-clause-err g c =
    let inv = c.loop-i.invariant in
    let old_len = c.args.listeners.now.ok.0 in
    let cur_len = c.loop-i.listeners.ok.0 in
    let old_flags = c.args.failed.now.ok.0 in
    let cur_flags = c.loop-i.failed.ok.0 in
    let equal = c.requires in
    let in_old : c.loop-i.i < length c.args.listeners.now.items = omega arith in
    let in_cur : c.loop-i.i < length c.loop-i.listeners.items = omega arith in
    let in_old_flags : c.loop-i.i < length c.args.failed.now.items = omega arith in
    let in_cur_flags : c.loop-i.i < length c.loop-i.failed.items = omega arith in
    let one = c.in_err-failed.ensures in
    on_err c.from_residual.result
    (stops_here _ _ _ _ _ _ _ _ _ _ in_old in_cur in_old_flags in_cur_flags
    inv.before inv.same inv.same_flags c.index_mut.ensures.value c.index.ensures
    one.unflagged one.err)

pub returns-in_err-failed-clause-names : goal.returns-in_err-failed-clause-names
returns-in_err-failed-clause-names g c =
    map_stays _ _ _ _ _ _ c.index_mut.ensures.value c.tell_unflagged.ensures.name c.loop-i.invariant.names

pub returns-in_err-failed-clause-finished : goal.returns-in_err-failed-clause-finished
returns-in_err-failed-clause-finished g c =
    map_stays _ _ _ _ _ _ c.index_mut.ensures.value c.tell_unflagged.ensures.finished
    c.loop-i.invariant.finished
