use Rattle.std.proofs.Common.{◌<◌, arith, rules}
use Rattle.qtl_syntax.specs.Grammar.{decimal_from}
use Rattle.qtl_syntax.proofs.Digits.{too_much}
use Rattle.qtl_syntax.proofs.next.bound_value.Goals as goal

pub returns-then-value-gt1048574-clause-large : goal.returns-then-value-gt1048574-clause-large
returns-then-value-gt1048574-clause-large c =
    let all : 1048574 < decimal_from 0 c.bytes-bytes.result.now =
    too_much c.bytes-bytes.result.now c.loop-i.value c.loop-i.i c.saturating_sub.result (omega arith) (search rules) c.loop-i.invariant.same (omega arith) in
    rw c.bytes-bytes.ensures at all
