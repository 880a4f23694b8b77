use Rattle.std.proofs.Common.{◌≡◌, drop}
use Rattle.std.specs.List.{zip}
use Rattle.wellformed.specs.Expansion.{meant}
use Rattle.wellformed.proofs.meaning.argument.Given as goal

abbrev pub invariant-loop-k : goal.invariant-loop-k
invariant-loop-k l = meant (zip l.params l.terms) l.name ≡ meant (zip (drop l.k l.params) (drop l.k l.terms)) l.name
