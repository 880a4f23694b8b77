use Rattle.std.proofs.Common.{◌≡◌}
use Rattle.std.specs.Prelude.{false}
use Rattle.std.proofs.lemmas.List.Elements.{All-more}
use Rattle.log_reader.specs.Quotes.{is_quote}
use Rattle.log_reader.proofs.TextLemmas.{no_quote}
use Rattle.log_reader.proofs.text.before_quote.Goals as goal

pub loop-i-preserved : goal.loop-i-preserved
loop-i-preserved c = All-more (λ b. is_quote b ≡ false) c.args.bytes.now c.loop-i.i 0 c.loop-i-test.true c.loop-i.invariant (no_quote _ c.if-byte-eq34.false)
