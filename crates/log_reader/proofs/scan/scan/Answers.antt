use Rattle.std.proofs.Common.{◌∙◌, sym, arith}
use Rattle.log_reader.proofs.RunLemmas.{span_run}
use Rattle.log_reader.proofs.scan.scan.Goals as goal

pub loop-i-preserved-then-is_usual : goal.loop-i-preserved-then-is_usual
loop-i-preserved-then-is_usual c =
    let i = c.loop-i.invariant in
    let within = c.loop-i-test.true in
    record {
      after = let a = i.after in omega arith;
      run = span_run c.args.bytes.now c.args.from c.loop-i.i c.args.place c.loop-i.place c.loop-i.place i.after (omega arith) i.run (c.is_usual.ensures c.if-is_usual.true);
    }

pub loop-i-preserved : goal.loop-i-preserved
loop-i-preserved c =
    let i = c.loop-i.invariant in
    let within = c.loop-i-test.true in
    record {
      after = let a = i.after in omega arith;
      run = span_run c.args.bytes.now c.args.from c.loop-i.i c.args.place c.loop-i.place c.in-Some.next i.after (omega arith) i.run (sym c.place_after.ensures ∙ c.in-Some.is);
    }
