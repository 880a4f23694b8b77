use Rattle.std.proofs.Common.{◌↔◌, drop, IsSome}
use Rattle.qtl_truth.specs.Scope.{assignment_of}
use Rattle.qtl_truth.specs.Truth.{texts_of}
use Rattle.qtl_truth.proofs.atom.have_texts.Given as goal

abbrev pub invariant-loop-term : goal.invariant-loop-term
invariant-loop-term l =
    IsSome (texts_of (assignment_of l.scope) l.terms) ↔ IsSome (texts_of (assignment_of l.scope) (drop l.term-index l.terms))
