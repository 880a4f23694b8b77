use Rattle.bdd_ops.proofs.Shortly.{parts_make, tried_made}
use Rattle.bdd_ops.proofs.short.+few.Goals as goal

pub apply_to_parts-make-requires-clause-below_low : goal.apply_to_parts-make-requires-clause-below_low
apply_to_parts-make-requires-clause-below_low g t c =
    (parts_make c.args.op c.args.u c.args.v c.args.table.now c.live-held.ensures.shared c.requires.left c.requires.right c.take_apart-part.result c.take_apart-part.ensures.splits
    c.apply_to_few.new.table c.in_ok-low.low c.in_ok-low.ensures.tried c.apply_to_few-2.new.table c.in_ok-high.high c.in_ok-high.ensures.tried).2

pub apply_to_parts-make-requires-clause-below_high : goal.apply_to_parts-make-requires-clause-below_high
apply_to_parts-make-requires-clause-below_high g t c =
    (parts_make c.args.op c.args.u c.args.v c.args.table.now c.live-held.ensures.shared c.requires.left c.requires.right c.take_apart-part.result c.take_apart-part.ensures.splits
    c.apply_to_few.new.table c.in_ok-low.low c.in_ok-low.ensures.tried c.apply_to_few-2.new.table c.in_ok-high.high c.in_ok-high.ensures.tried).3

pub apply_to_parts-returns-in-Ok-clause-tried : goal.apply_to_parts-returns-in-Ok-clause-tried
apply_to_parts-returns-in-Ok-clause-tried g t c =
    tried_made c.args.op c.args.u c.args.v c.args.table.now c.live-held.ensures.shared c.requires.left c.requires.right c.take_apart-part.result c.take_apart-part.ensures.splits
    c.apply_to_few.new.table c.in_ok-low.low c.in_ok-low.ensures.tried c.apply_to_few-2.new.table c.in_ok-high.high c.in_ok-high.ensures.tried
    c.make.new.self c.in-Ok.made c.make.ensures.kept c.make.ensures.shared c.in-Ok.ensures.valid c.in-Ok.ensures.tree
