use Rattle.std.specs.Prelude.{not, slice_index_or, false}
use Rattle.code_reclaim.proofs.Telling.{told_of_one, told_values}
use Rattle.code_reclaim.proofs.told.is_told_apart.Goals as goal

pub returns-clause-told : goal.returns-clause-told
returns-clause-told g c = told_of_one c.args.table.now c.args.remembered.now c.args.block.first c.args.block.bits c.args.code c.strike_told.new.candidates c.strike_told.ensures.struck

pub returns-clause-values : goal.returns-clause-values
returns-clause-values g c =
    told_values c.args.table.now c.live-held.ensures.shared c.args.remembered.now c.requires.valid c.args.block.first c.args.block.bits c.args.code (not (slice_index_or c.strike_told.new.candidates 0 false))
    (told_of_one c.args.table.now c.args.remembered.now c.args.block.first c.args.block.bits c.args.code c.strike_told.new.candidates c.strike_told.ensures.struck)
