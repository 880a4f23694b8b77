use Rattle.std.proofs.Common.{◌≡◌, drop}
use Rattle.wellformed.specs.Faults.{has_repeat}
use Rattle.wellformed.proofs.duplicates.repeats.Given as goal

abbrev pub invariant-loop-k : goal.invariant-loop-k
invariant-loop-k l = has_repeat l.texts ≡ has_repeat (drop l.k l.texts)
