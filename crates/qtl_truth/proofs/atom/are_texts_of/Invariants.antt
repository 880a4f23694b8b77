use Rattle.std.proofs.Common.{◌≡◌, ◌↔◌, drop}
use Rattle.std.specs.Prelude.{Some}
use Rattle.qtl_truth.specs.Scope.{assignment_of}
use Rattle.qtl_truth.specs.Truth.{texts_of}
use Rattle.qtl_truth.proofs.atom.are_texts_of.Given as goal

abbrev pub invariant-loop-k : goal.invariant-loop-k
invariant-loop-k l =
    (texts_of (assignment_of l.scope) l.terms ≡ Some l.texts) ↔ (texts_of (assignment_of l.scope) (drop l.k l.terms) ≡ Some (drop l.k l.texts))
