use Rattle.std.proofs.Common.{◌≡◌, drop}
use Rattle.qtl_truth.specs.Truth.{text_at}
use Rattle.qtl_truth.proofs.atom.text_at.Given as goal

abbrev pub invariant-loop-name : goal.invariant-loop-name
invariant-loop-name l = text_at l.pairs l.variable ≡ text_at (drop l.name-index l.pairs) l.variable
