use Rattle.std.proofs.Common.{◌∙◌, sym}
use Rattle.log_reader.proofs.TextLemmas.{text_more_at, text_ends}
use Rattle.log_reader.proofs.text.undouble.Goals as goal

pub returns-then-is_closing : goal.returns-then-is_closing
returns-then-is_closing c =
    text_ends c.loop-i.text.items c.args.bytes.now c.loop-i.i c.loop-i-test.true (sym c.is_closing.ensures ∙ c.if-is_closing.true) c.loop-i.invariant

pub loop-i-preserved : goal.loop-i-preserved
loop-i-preserved c =
    text_more_at c.loop-i.text.items c.push.new.self.items c.args.bytes.now c.loop-i.i c.spelling-i.result c.loop-i-test.true (sym c.is_closing.ensures ∙ c.if-is_closing.false) c.in_ok-push.ensures.items c.spelling-i.ensures
    ∙ c.loop-i.invariant
