use Rattle.std.proofs.Common.{◌≡◌, ◌∙◌, sym, subst}
use Rattle.std.specs.Prelude.{IfOk}
use Rattle.log_reader.proofs.TextLemmas.{quoted_at}
use Rattle.log_reader.proofs.text.quoted_text.Goals as goal

pub returns-then-not-is_quote_at : goal.returns-then-not-is_quote_at
returns-then-not-is_quote_at c =
    let e = c.before_quote-end.ensures in
    subst (λ l. IfOk c.from_bytes.result (λ t. t ≡ l))
    (c.bytes_before.ensures ∙ quoted_at c.args.bytes.now c.before_quote-end.result e.within e.before e.quote (sym c.is_quote_at.ensures ∙ c.if-not-is_quote_at.true) c.requires)
    c.from_bytes.ensures
