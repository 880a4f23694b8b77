use Rattle.std.proofs.Common.{◌≡◌}
use Rattle.node_table.specs.Table.{IsValid}
use Rattle.code_reclaim.proofs.tests.left.Given as goal

abbrev pub invariant-loop-name : goal.invariant-loop-name
invariant-loop-name g l = l.book.bits ≡ 4

abbrev pub invariant-loop-pair : goal.invariant-loop-pair
invariant-loop-pair g l = IsValid l.store.table l.tree
