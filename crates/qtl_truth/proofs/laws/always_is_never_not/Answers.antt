use Rattle.std.proofs.Common.{⊎_elim}
use Rattle.qtl_truth.proofs.laws.always_is_never_not.Goals as goal

pub returns-clause-only : goal.returns-clause-only
returns-clause-only c = λ before log i nu f each (j, p, q, not). not (each j p q)

pub returns-clause-back : goal.returns-clause-back
returns-clause-back c = λ before log i nu f decided never j p q.
    ⊎_elim (λ x. x) (λ not. absurd (never (j, p, q, not))) (decided j p q)
