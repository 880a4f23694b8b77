use Rattle.std.proofs.Common.{sym, subst}
use Rattle.timed_bits.specs.Changing.{changed, Accepts}
use Rattle.quantify.proofs.Noting.{notes_none}
use Rattle.timed_bits.proofs.Walking.{whole_made, whole_cost}
use Rattle.timed_bits.proofs.walk.change_whole.Goals as goal

pub change_parts-requires-clause-valid : goal.change_parts-requires-clause-valid
change_parts-requires-clause-valid g c = (c.clear_notes.ensures.grows.keeps.trees c.args.h c.requires.valid).0

pub change_parts-requires-clause-accepts : goal.change_parts-requires-clause-accepts
change_parts-requires-clause-accepts g c = subst (Accepts c.args.block.first c.args.block.bits c.args.change) (sym (c.clear_notes.ensures.grows.keeps.trees c.args.h c.requires.valid).1) c.requires.accepts

pub change_parts-requires-clause-noted : goal.change_parts-requires-clause-noted
change_parts-requires-clause-noted g c = notes_none (λ t. changed c.args.block.first c.args.block.bits c.args.change t) c.clear_notes.new.self.table c.clear_notes.ensures.none

pub returns-clause-made : goal.returns-clause-made
returns-clause-made g c = whole_made (λ t. changed c.args.block.first c.args.block.bits c.args.change t) c.args.h c.args.store.now.table c.clear_notes.new.self.table c.change_parts.new.store.table c.args.steps.now c.change_parts.new.steps c.change_parts.result c.requires.valid c.clear_notes.ensures.grows c.change_parts.ensures.walks

pub returns-clause-cost : goal.returns-clause-cost
returns-clause-cost g c = whole_cost (λ t. changed c.args.block.first c.args.block.bits c.args.change t) c.args.h c.args.store.now.table c.clear_notes.new.self.table c.change_parts.new.store.table c.args.steps.now c.change_parts.new.steps c.change_parts.result c.requires.valid c.clear_notes.ensures.grows c.change_parts.ensures.walks c.live-held.ensures.shared
