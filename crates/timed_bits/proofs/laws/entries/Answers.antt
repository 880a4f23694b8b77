use Rattle.timed_bits.proofs.Entries.{entry-chain, age-read}
use Rattle.timed_bits.proofs.laws.entries.Goals as goal

pub returns : goal.returns
returns c = record { chain = entry-chain; age = age-read }
