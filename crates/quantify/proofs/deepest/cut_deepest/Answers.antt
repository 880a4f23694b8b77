use Rattle.std.proofs.Common.{◌*◌, ◌≤◌, subst, arith}
use Rattle.node_table.specs.Table.{Table, live_of}
use Rattle.quantify.proofs.CutBlocks.{cuts_off_made, same_live}
use Rattle.quantify.proofs.deepest.cut_deepest.Goals as goal

pub cut_off-requires-clause-room : goal.cut_off-requires-clause-room
cut_off-requires-clause-room g c =
    let fit = subst (λ (t : Table). (3 * live_of t ≤ t.room) × (3 ≤ t.room)) c.table.ensures (c.has_room.ensures c.if-not-has_room.false) in
    let room = c.is_before.ensures.grows.keeps.room in
    let live = same_live c.args.store.now.table c.is_before.new.store.table c.is_before.ensures.nodes in
    omega (arith, fit.0, room, live)

pub returns-clause-cut : goal.returns-clause-cut
returns-clause-cut g c =
    let fit = subst (λ (t : Table). (3 * live_of t ≤ t.room) × (3 ≤ t.room)) c.table.ensures (c.has_room.ensures c.if-not-has_room.false) in
    cuts_off_made c.args.all c.args.block.first c.args.block.bits c.args.h c.args.store.now.table c.is_before.new.store.table c.cut_off.new.store.table c.args.steps.now c.is_before.new.steps c.cut_off.new.steps
    c.cut_off.result c.requires.valid c.is_before.ensures.grows c.is_before.ensures.cost c.cut_off.ensures.cost fit.0 (c.is_before.ensures.before c.if-not-is_before.false) c.cut_off.ensures.made
