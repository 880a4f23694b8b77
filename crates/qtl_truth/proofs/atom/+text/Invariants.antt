use Rattle.std.proofs.Common.{◌≡◌, drop}
use Rattle.qtl_truth.specs.Scope.{assignment_of}
use Rattle.qtl_truth.proofs.Texts.{given}
use Rattle.qtl_truth.proofs.atom.+text.Given as goal

abbrev pub invariant-argument-loop-k : goal.invariant-argument-loop-k
invariant-argument-loop-k l =
    given (assignment_of l.outer) l.params l.terms l.name ≡ given (assignment_of l.outer) (drop l.k l.params) (drop l.k l.terms) l.name
