use Rattle.std.proofs.Common.{take, drop}
use Rattle.qtl_truth.specs.Items.{before_of}
use Rattle.wellformed.specs.Counts.{AreCounts, IsCount}
use Rattle.wellformed.specs.Expansion.{call_quantifiers, call_size}
use Rattle.wellformed.proofs.counts.count_of_call.Given as goal

abbrev pub invariant-loop-k : goal.invariant-loop-k
invariant-loop-k l = record {
  found : IsCount l.found (call_size (before_of (take l.k l.items)) l.name) (call_quantifiers (before_of (take l.k l.items)) l.name);
  left : AreCounts (before_of (take l.k l.items)) (drop l.k l.items) (drop l.k l.counts);
}
