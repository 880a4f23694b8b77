use Rattle.std.proofs.Common.{◌≡◌, ◌+◌, ◌≤◌, length, map}
use Rattle.node_table.specs.Table.{tree_of}
use Rattle.value_codes.specs.Pairs.{IsBook}
use Rattle.code_reclaim.specs.Swept.{stays, KeepsWithin}
use Rattle.code_reclaim.proofs.reclaim.sweep_range.Given as goal

abbrev pub invariant-loop-i : goal.invariant-loop-i
invariant-loop-i g l = record {
  swept : KeepsWithin (stays (map (tree_of l.fn.table) l.remembered) l.fn.block.first l.fn.block.bits l.needed) l.from (l.from + l.i) l.fn.book.pairs l.book.pairs;
  count : l.released + length l.book.pairs ≡ length l.fn.book.pairs;
  few : l.released ≤ l.i;
  bits : l.book.bits ≡ l.fn.book.bits;
  sound : IsBook l.book;
}
