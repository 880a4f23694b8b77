use Rattle.std.proofs.Common.{◌≡◌, ◌∙◌, ap, sym, subst}
use Rattle.std.specs.Prelude.{IfOk, IsSome}
use Rattle.log_reader.specs.Fields.{drop_blanks, quoted}
use Rattle.log_reader.specs.Quotes.{quoted_text}
use Rattle.log_reader.proofs.TextLemmas.{is_quoted, bare_place, bare_front, quoted_here, front_within, behind_quote}
use Rattle.log_reader.proofs.text.field_text.Goals as goal

pub bytes_from-requires : goal.bytes_from-requires
bytes_from-requires c =
    let r = c.requires in
    front_within c.args.bytes.now c.blanks_at_front-front.result c.blanks_at_front-front.ensures.rest (quoted_here c.args.bytes.now c.args.place r.place c.in-AtQuote.is r.closed)

pub quoted_text-requires : goal.quoted_text-requires
quoted_text-requires c =
    let r = c.requires in
    let q = quoted_here c.args.bytes.now c.args.place r.place c.in-AtQuote.is r.closed in
    subst (λ l. IsSome (quoted l)) (sym (c.bytes_from.ensures ∙ behind_quote c.args.bytes.now c.blanks_at_front-front.result c.blanks_at_front-front.ensures.rest)) q.some

pub returns-in-AtQuote : goal.returns-in-AtQuote
returns-in-AtQuote c =
    let r = c.requires in
    let q = quoted_here c.args.bytes.now c.args.place r.place c.in-AtQuote.is r.closed in
    subst (λ l. IfOk c.quoted_text.result (λ t. t ≡ l))
    (ap (λ l. quoted_text (quoted l)) (c.bytes_from.ensures ∙ behind_quote c.args.bytes.now c.blanks_at_front-front.result c.blanks_at_front-front.ensures.rest) ∙ sym (q.text c.args.bytes.now))
    c.quoted_text.ensures

pub returns-in-Before : goal.returns-in-Before
returns-in-Before c =
    let r = c.requires in
    subst (λ l. IfOk c.from_bytes.result (λ t. t ≡ l))
    (c.trim.ensures ∙ sym (bare_front (drop_blanks c.args.bytes.now) c.args.bytes.now (ap is_quoted r.place ∙ bare_place c.args.place c.in-Before.is r.closed)))
    c.from_bytes.ensures
