use Rattle.std.proofs.Common.{◌∙◌, sym, ap}
use Rattle.log_reader.specs.Records.{time_of, split_last, timed_event, at_time}
use Rattle.log_reader.proofs.DigitLemmas.{last_is}
use Rattle.log_reader.proofs.time.pop_time.Goals as goal

pub returns : goal.returns
returns c = λ name before.
    let texts = c.pop.new.self in
    let text = c.in_ok-text.text in
    ap (λ l. timed_event before name (split_last l)) c.in_ok-text.ensures
    ∙ ap (timed_event before name) (last_is texts text)
    ∙ ap (at_time before name texts) (ap time_of (sym c.bytes.ensures) ∙ sym c.time_of.ensures)
