use Rattle.std.proofs.Common.{arith, rules}
use Rattle.sample_log.proofs.Pieces.{short}
use Rattle.sample_log.proofs.line.write_line.Goals as goal

pub write_digits-digits-requires : goal.write_digits-digits-requires
write_digits-digits-requires c = let h = short c.from.result c.from.type_inv in search (arith, rules)

pub put_before-requires-clause-fits : goal.put_before-requires-clause-fits
put_before-requires-clause-fits c = let h = short c.from.result c.from.type_inv in omega arith
