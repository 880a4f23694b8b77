use Rattle.node_table.specs.Table.{tree_of}
use Rattle.timed_bits.proofs.Taken.{ages-chains}
use Rattle.timed_bits.proofs.calls.at_time.Goals as goal

pub change_ages-requires-clause-accepts : goal.change_ages-requires-clause-accepts
change_ages-requires-clause-accepts g c = ages-chains c.args.block.first c.args.block.bits (tree_of c.args.store.now.table c.args.h) c.requires.ages.0 c.requires.ages.1
