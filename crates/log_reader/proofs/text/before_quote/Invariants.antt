use Rattle.std.proofs.Common.{◌≡◌, take}
use Rattle.std.specs.Prelude.{All, false}
use Rattle.log_reader.specs.Quotes.{is_quote}
use Rattle.log_reader.proofs.text.before_quote.Given as goal

abbrev pub invariant-loop-i : goal.invariant-loop-i
invariant-loop-i l = All (λ b. is_quote b ≡ false) (take l.i l.bytes)
