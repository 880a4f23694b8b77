use Rattle.std.proofs.Common.{◌∙◌, sym, arith, get_or}
use Rattle.log_reader.proofs.DigitLemmas.{digit_fits, time_goes, time_ends, time_fails}
use Rattle.log_reader.proofs.time.time_of.Goals as goal

pub loop-byte-preserved : goal.loop-byte-preserved
loop-byte-preserved c =
    let e = sym c.with_digit.ensures ∙ c.in_ok-time.was in
    record {
      fits = digit_fits c.loop-byte.time (get_or c.args.text.now c.loop-byte.byte-index 0) _ e;
      so_far = time_goes c.args.text.now c.loop-byte.time c.loop-byte.byte-index _ c.loop-byte.invariant.so_far c.loop-byte-test.true e;
    }

pub returns-in_err-time : goal.returns-in_err-time
returns-in_err-time c =
    c.from_residual.ensures
    ∙ time_fails c.args.text.now (sym c.is_empty.ensures ∙ c.if-is_empty.false) c.loop-byte.time c.loop-byte.byte-index c.loop-byte.invariant.so_far c.loop-byte-test.true
    (sym c.with_digit.ensures ∙ c.in_err-time.was)

pub returns : goal.returns
returns c = time_ends c.args.text.now (sym c.is_empty.ensures ∙ c.if-is_empty.false) c.loop-byte.time c.loop-byte.byte-index c.loop-byte.invariant.so_far (omega arith) c.loop-byte.invariant.fits
