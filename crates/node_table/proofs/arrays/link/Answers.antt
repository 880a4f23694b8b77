use Rattle.std.proofs.Common.{refl}
use Rattle.std.specs.Prelude.{slice_index_or}
use Rattle.node_table.proofs.Writing.{linked_head, linked_place}
use Rattle.node_table.proofs.arrays.link.Goals as goal

pub returns-then-first-number-clause-chained : goal.returns-then-first-number-clause-chained
returns-then-first-number-clause-chained c =
    linked_head c.args.slots.now c.args.heads.now c.args.bucket c.args.number c.args.node c.requires.chained c.requires.bucket c.requires.within c.requires.apart c.requires.free c.requires.two c.requires.inside
    (slice_index_or c.args.heads.now c.args.bucket 0) refl c.if-first-number.true

pub returns-else-first-number-clause-chained : goal.returns-else-first-number-clause-chained
returns-else-first-number-clause-chained c =
    linked_place c.args.slots.now c.args.heads.now c.args.bucket c.args.number c.args.node c.requires.chained c.requires.bucket c.requires.within c.requires.apart c.requires.free c.requires.two c.requires.inside
    c.place-before.result c.place-before.ensures
