use Rattle.std.proofs.Common.{◌≡◌, map, take}
use Rattle.wellformed.specs.Expansion.{numbered_term}
use Rattle.wellformed.specs.Meanings.{names_of}
use Rattle.wellformed.proofs.meaning.number_all.Given as goal

abbrev pub invariant-loop-term : goal.invariant-loop-term
invariant-loop-term l = l.all ≡ map (numbered_term (names_of l.meaning)) (take l.term-index l.terms)
