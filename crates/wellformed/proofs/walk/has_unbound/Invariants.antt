use Rattle.std.proofs.Common.{◌≡◌, drop}
use Rattle.wellformed.specs.Faults.{is_unbound}
use Rattle.wellformed.specs.Walk.{names_in_scope}
use Rattle.wellformed.proofs.walk.has_unbound.Given as goal

abbrev pub invariant-loop-term : goal.invariant-loop-term
invariant-loop-term l =
    is_unbound (names_in_scope l.scope) l.terms ≡ is_unbound (names_in_scope l.scope) (drop l.term-index l.terms)
