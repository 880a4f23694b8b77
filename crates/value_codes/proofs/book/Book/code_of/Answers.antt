use Rattle.std.proofs.Common.{◌∙◌, ap}
use Rattle.value_codes.specs.Pairs.{code_of}
use Rattle.value_codes.proofs.Lookups.{code_lookup}
use Rattle.value_codes.proofs.book.Book.code_of.Goals as goal

pub returns : goal.returns
returns c = record { code = c.copied.ensures ∙ (c.get.ensures.value ∙ (code_lookup c.self.inside.codes.entries c.args.value.now ∙ ap (λ b. code_of b.pairs c.args.value.now) c.self.view_is)) }
