use Rattle.std.proofs.Common.{⊎_elim}
use Rattle.qtl_truth.proofs.laws.timed_always_is_never_not.Goals as goal

pub returns-clause-only : goal.returns-clause-only
returns-clause-only c = λ before log i nu b f each (j, p, q, h). h.1 (each j p q h.0)

pub returns-clause-back : goal.returns-clause-back
returns-clause-back c = λ before log i nu b f decided never j p q within.
    ⊎_elim (λ x. x) (λ not. absurd (never (j, p, q, (within, not)))) (decided j p q)
