use Rattle.std.proofs.Common.{◌≡◌, ◌++◌, drop}
use Rattle.std.specs.Prelude.{map}
use Rattle.qtl_syntax.specs.Canonical.{after_commas, term_text}
use Rattle.qtl_syntax.proofs.writer.write_more_terms.Given as goal

abbrev pub invariant-loop-term : goal.invariant-loop-term
invariant-loop-term l = l.initial.out.items ++ after_commas (map term_text l.terms) ≡ l.out.items ++ after_commas (map term_text (drop l.term-index l.terms))
