use Rattle.timed_bits.proofs.Ages.{ages_where, ages_either, value-before}
use Rattle.timed_bits.proofs.laws.with_others.Goals as goal

pub returns : goal.returns
returns c = record { within = ages_where; either = ages_either; before = value-before }
