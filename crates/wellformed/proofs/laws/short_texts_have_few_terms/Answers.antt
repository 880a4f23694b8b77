use Rattle.wellformed.proofs.FewTerms.{short_terms}
use Rattle.wellformed.proofs.laws.short_texts_have_few_terms.Goals as goal

pub returns : goal.returns
returns c = short_terms
