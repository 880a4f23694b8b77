use Rattle.qtl_truth.proofs.laws.timed_once_is_timed_since.Goals as goal

pub returns : goal.returns
returns c = λ before log i nu b f.
    (λ (j, p, q, h). (j, p, q, (h.0, h.1, λ k x y. tt)), λ (j, p, q, h). (j, p, q, (h.0, h.1)))
