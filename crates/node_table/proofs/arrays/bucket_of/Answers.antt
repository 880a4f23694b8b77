use Rattle.std.proofs.Common.{refl}
use Rattle.node_table.specs.Hash.{bucket_of}
use Rattle.node_table.proofs.arrays.bucket_of.Goals as goal

pub returns-clause-bucket : goal.returns-clause-bucket
unfolding bucket_of
returns-clause-bucket c = refl
