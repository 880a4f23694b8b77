use Rattle.std.proofs.Common.{◌≡◌, ◌≤◌, take}
use Rattle.std.specs.List.{All}
use Rattle.op_cache.specs.Chains.{AreLinked, pairs_of}
use Rattle.op_cache.proofs.chains.relink.Given as goal

abbrev pub invariant-loop-at : goal.invariant-loop-at
invariant-loop-at g l = record {
  linked : AreLinked (take l.at l.entries) l.heads l.window l.round;
  pairs : pairs_of l.entries ≡ pairs_of l.fn.entries;
  rounds : All (λ h. h.round ≤ l.round) l.heads;
}
