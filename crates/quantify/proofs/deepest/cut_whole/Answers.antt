use Rattle.quantify.specs.Cut.{cut}
use Rattle.quantify.proofs.Noting.{notes_none}
use Rattle.quantify.proofs.CutBlocks.{cut_made_over, cuts_cost}
use Rattle.quantify.proofs.deepest.cut_whole.Goals as goal

pub cut_parts-requires-clause-valid : goal.cut_parts-requires-clause-valid
cut_parts-requires-clause-valid g c = (c.clear_notes.ensures.grows.keeps.trees c.args.h c.requires.valid).0

pub cut_parts-requires-clause-noted : goal.cut_parts-requires-clause-noted
cut_parts-requires-clause-noted g c = notes_none (cut c.args.all c.args.first) c.clear_notes.new.self.table c.clear_notes.ensures.none

pub returns-clause-made : goal.returns-clause-made
returns-clause-made g c =
    cut_made_over c.args.all c.args.first c.args.h c.args.store.now.table c.clear_notes.new.self.table c.cut_parts.new.store.table c.cut_parts.result c.requires.valid
    c.clear_notes.ensures.grows c.cut_parts.ensures.cuts.made

pub returns-clause-cost : goal.returns-clause-cost
returns-clause-cost g c =
    cuts_cost c.args.all c.args.first c.args.h c.args.store.now.table c.clear_notes.new.self.table c.cut_parts.new.store.table c.args.steps.now c.cut_parts.new.steps c.cut_parts.result
    c.clear_notes.ensures.grows.keeps.room c.cut_parts.ensures.cuts
