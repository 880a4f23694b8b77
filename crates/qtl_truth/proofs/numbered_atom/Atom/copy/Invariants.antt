use Rattle.std.proofs.Common.{◌≡◌, take}
use Rattle.qtl_truth.proofs.numbered_atom.Atom.copy.Given as goal

abbrev pub invariant-loop-term : goal.invariant-loop-term
invariant-loop-term l = l.terms ≡ take l.term-index l.self.terms
