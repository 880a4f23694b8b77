use Rattle.std.proofs.Common.{◌≡◌, ◌≤◌, drop}
use Rattle.qtl_syntax.specs.Grammar.{decimal_from}
use Rattle.qtl_syntax.proofs.next.bound_value.Given as goal

abbrev pub invariant-loop-i : goal.invariant-loop-i
invariant-loop-i l = record { same : decimal_from l.value (drop l.i l.bytes) ≡ decimal_from 0 l.bytes; small : l.value ≤ 1048574 }
