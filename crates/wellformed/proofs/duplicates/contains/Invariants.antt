use Rattle.std.proofs.Common.{◌≡◌, drop}
use Rattle.wellformed.specs.Faults.{is_in}
use Rattle.wellformed.proofs.duplicates.contains.Given as goal

abbrev pub invariant-loop-own : goal.invariant-loop-own
invariant-loop-own l = is_in l.texts l.text ≡ is_in (drop l.own-index l.texts) l.text
