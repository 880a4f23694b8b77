use Rattle.qtl_truth.proofs.laws.once_is_since.Goals as goal

pub returns : goal.returns
returns c = λ before log i nu f. (λ (j, p, q, h). (j, p, q, (h, λ k x y. tt)), λ (j, p, q, h). (j, p, q, h.0))
