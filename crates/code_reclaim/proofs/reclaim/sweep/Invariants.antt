use Rattle.std.proofs.Common.{◌≡◌, ◌+◌, ◌*◌, ◌-◌, ◌≤◌, [], length, map}
use Rattle.node_table.specs.Table.{tree_of}
use Rattle.value_codes.specs.Pairs.{IsBook}
use Rattle.code_reclaim.specs.Swept.{stays, KeepsWithin}
use Rattle.code_reclaim.proofs.reclaim.sweep.Given as goal

abbrev pub invariant-loop-from : goal.invariant-loop-from
invariant-loop-from g l = record {
  room : l.table.room ≡ l.fn.table.room;
  nodes : l.table.nodes ≡ l.fn.table.nodes;
  swept : KeepsWithin (stays (map (tree_of l.fn.table) l.remembered) l.block.first l.block.bits l.needed) 0 l.from l.fn.book.pairs l.book.pairs;
  count : l.released + length l.book.pairs ≡ length l.fn.book.pairs;
  few : l.released ≤ l.from;
  within : l.from ≤ l.codes;
  bits : l.book.bits ≡ l.fn.book.bits;
  sound : IsBook l.book;
  cost : l.steps ≤ l.initial.steps + l.from * ((l.fn.table.room + 2) * (2 * l.block.bits + 1));
  idle : l.remembered ≡ [] → l.steps ≡ l.initial.steps;
}

abbrev pub decreases-loop-from : goal.decreases-loop-from
decreases-loop-from g l = l.codes - l.from
