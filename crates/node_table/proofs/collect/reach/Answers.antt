use Rattle.std.proofs.Common.{List, ℕ, arith, subst, sym, set}
use Rattle.node_table.specs.Marks.{IsReached}
use Rattle.node_table.proofs.Marking.{reached_new, room_left}
use Rattle.node_table.proofs.Rounds.{unequal}
use Rattle.node_table.proofs.collect.reach.Goals as goal

pub push_reserved-requires : goal.push_reserved-requires
push_reserved-requires c =
    let left = room_left c.args.marks.now c.args.waiting.now.items c.args.round c.args.h c.requires.reached (omega arith) (unequal _ c.args.round c.if-marks-h.true) c.requires.inside in
    omega (arith, left, c.requires.room)

pub returns-then-marks-h-clause-reached : goal.returns-then-marks-h-clause-reached
returns-then-marks-h-clause-reached c =
    subst (λ (w : List ℕ). IsReached (set c.args.marks.now c.args.h c.args.round) w c.args.round) (sym c.push_reserved.ensures.items)
    (reached_new c.args.marks.now c.args.waiting.now.items c.args.round c.args.h c.requires.reached (omega arith) (unequal _ c.args.round c.if-marks-h.true) c.requires.inside)
