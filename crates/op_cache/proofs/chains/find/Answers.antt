use Rattle.std.proofs.Common.{◌-◌, length, sym, refl, arith}
use Rattle.std.proofs.lemmas.Option.{slice_get_read}
use Rattle.op_cache.proofs.Following.{passed_first, next_smaller, passed_next, passed_found, passed_all}
use Rattle.op_cache.proofs.chains.find.Goals as goal

pub loop-link-init : goal.loop-link-init
loop-link-init g c =
    passed_first c.args.entries.now c.args.heads.now c.args.window c.args.round c.args.place c.bucket.result c.first_link-link.result c.requires.linked c.bucket.ensures.bucket c.first_link-link.ensures

pub returns-then-is : goal.returns-then-is
returns-then-is g c =
    passed_found c.args.entries.now c.args.heads.now c.args.window c.args.round c.requires.linked c.args.place c.loop-link.link (c.loop-link.link - 1) c.index-entries-link.result c.loop-link.invariant
    (omega arith)
    (slice_get_read c.args.entries.now (length c.args.entries.now) (c.loop-link.link - 1) c.index-entries-link.result refl (omega arith) c.index-entries-link.is)
    c.requires.distinct (sym c.if-is.ensures)

pub loop-link-smaller : goal.loop-link-smaller
loop-link-smaller g c =
    next_smaller c.args.entries.now c.args.heads.now c.args.window c.args.round c.requires.linked c.args.place c.loop-link.link (c.loop-link.link - 1) c.index-entries-link.result c.loop-link.invariant
    (omega arith)
    (slice_get_read c.args.entries.now (length c.args.entries.now) (c.loop-link.link - 1) c.index-entries-link.result refl (omega arith) c.index-entries-link.is)

pub loop-link-preserved : goal.loop-link-preserved
loop-link-preserved g c =
    passed_next c.args.entries.now c.args.heads.now c.args.window c.args.round c.requires.linked c.args.place c.loop-link.link (c.loop-link.link - 1) c.index-entries-link.result c.loop-link.invariant
    (omega arith)
    (slice_get_read c.args.entries.now (length c.args.entries.now) (c.loop-link.link - 1) c.index-entries-link.result refl (omega arith) c.index-entries-link.is)
    (sym c.if-is.ensures)

pub returns : goal.returns
returns g c = passed_all c.args.entries.now c.args.window c.args.place c.loop-link.link (omega arith) c.loop-link.invariant
