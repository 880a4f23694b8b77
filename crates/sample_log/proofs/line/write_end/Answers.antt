use Rattle.std.proofs.Common.{arith, rules}
use Rattle.sample_log.proofs.Pieces.{short, timed_end}
use Rattle.sample_log.proofs.line.write_end.Goals as goal

pub write_digits-digits-requires : goal.write_digits-digits-requires
write_digits-digits-requires c = let h = short c.from.result c.from.type_inv in search (arith, rules)

pub put_before-requires-clause-fits : goal.put_before-requires-clause-fits
put_before-requires-clause-fits c = let h = short c.from.result c.from.type_inv in omega arith

pub returns-clause-start : goal.returns-clause-start
returns-clause-start c = let h = short c.from.result c.from.type_inv in omega arith

pub returns-clause-written : goal.returns-clause-written
returns-clause-written c =
    timed_end c.args.timed c.from.result c.args.number _ _ _ c.args.room.now c.if-not-timed.false c.from.ensures c.requires c.put_before.ensures.written c.write_digits-digits.ensures.written c.put_before-end.ensures.written
