use Rattle.std.proofs.Common.{◌∙◌, sym, arith}
use Rattle.settings.proofs.Digits.{parse_refuses}
use Rattle.settings.proofs.numbers.number_in.Goals as goal

pub returns-in_err-number-clause-value : goal.returns-in_err-number-clause-value
returns-in_err-number-clause-value c =
    c.from_residual.ensures
    ∙ sym (parse_refuses c.args.least c.args.most c.args.text.now c.parse.result c.parse.ensures.value.0
    (sym c.has_digits_alone.ensures ∙ c.if-not-has_digits_alone.false) (sym c.ok.ensures.value ∙ c.in_err-number.was) (omega arith))
