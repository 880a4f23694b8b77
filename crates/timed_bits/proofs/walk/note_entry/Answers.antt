use Rattle.std.proofs.Common.{refl, arith, rules}
use Rattle.node_table.specs.Table.{tree_of}
use Rattle.timed_bits.specs.Changing.{changed, changed_entry}
use Rattle.timed_bits.proofs.Taken.{change_joins, changed-here, accepts-entry}
use Rattle.timed_bits.proofs.Walking.{entry_err, entry_done}
use Rattle.timed_bits.proofs.walk.note_entry.Goals as goal

pub change_entry-requires-clause-accepts : goal.change_entry-requires-clause-accepts
change_entry-requires-clause-accepts g c = accepts-entry c.args.block.first c.args.block.bits c.args.change (tree_of c.args.store.now.table c.args.h) c.requires.ordered c.requires.accepts

pub returns-in_err-made-clause-walks : goal.returns-in_err-made-clause-walks
returns-in_err-made-clause-walks g c = λ before e.
    entry_err (λ t. changed c.args.block.first c.args.block.bits c.args.change t) c.args.block.first c.args.h c.args.store.now.table before (omega (arith, c.requires.block)) (change_joins c.args.block.first c.args.block.bits c.args.change) c.live-held.ensures.shared c.requires.valid c.requires.noted c.requires.none c.change_entry.new.store.table (changed_entry c.args.block.first c.args.block.bits c.args.change (tree_of c.args.store.now.table c.args.h)) c.change_entry.result (changed-here c.args.block.first c.args.block.bits c.args.change (tree_of c.args.store.now.table c.args.h) c.requires.ordered) c.change_entry.ensures.notes c.change_entry.ensures.made c.change_entry.new.steps (let k = c.change_entry.ensures.cost in omega (arith, k, e)) _ (rw c.in_err-made.was refl) (search rules)

pub returns-clause-walks : goal.returns-clause-walks
returns-clause-walks g c = λ before e.
    entry_done (λ t. changed c.args.block.first c.args.block.bits c.args.change t) c.args.block.first c.args.h c.args.store.now.table before (omega (arith, c.requires.block)) (change_joins c.args.block.first c.args.block.bits c.args.change) c.live-held.ensures.shared c.requires.valid c.requires.noted c.requires.none c.change_entry.new.store.table (changed_entry c.args.block.first c.args.block.bits c.args.change (tree_of c.args.store.now.table c.args.h)) c.change_entry.result (changed-here c.args.block.first c.args.block.bits c.args.change (tree_of c.args.store.now.table c.args.h) c.requires.ordered) c.change_entry.ensures.notes c.change_entry.ensures.made c.change_entry.new.steps (let k = c.change_entry.ensures.cost in omega (arith, k, e)) c.in_ok-made.made c.in_ok-made.was c.take_note.new.self.table c.take_note.ensures.grows c.take_note.ensures.noted c.take_note.ensures.within
