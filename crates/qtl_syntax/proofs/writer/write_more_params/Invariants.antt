use Rattle.std.proofs.Common.{◌≡◌, ◌++◌, drop}
use Rattle.qtl_syntax.specs.Canonical.{after_commas}
use Rattle.qtl_syntax.proofs.writer.write_more_params.Given as goal

abbrev pub invariant-loop-param : goal.invariant-loop-param
invariant-loop-param l = l.initial.out.items ++ after_commas l.params ≡ l.out.items ++ after_commas (drop l.param-index l.params)
