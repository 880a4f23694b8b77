use Rattle.std.proofs.Common.{drop}
use Rattle.std.specs.Prelude.{◌↔◌}
use Rattle.qtl_syntax.specs.FirstForms.{AreConstant}
use Rattle.qtl_syntax.proofs.first.are_constant.Given as goal

abbrev pub invariant-loop-term : goal.invariant-loop-term
invariant-loop-term l = AreConstant l.terms ↔ AreConstant (drop l.term-index l.terms)
