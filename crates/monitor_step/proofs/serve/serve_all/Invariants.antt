-- The variables before this one are served; the rooms, the store and the steps are within bounds.
use Rattle.std.proofs.Common.{◌≡◌, ◌+◌, ◌*◌, ◌-◌, ◌^◌, ◌≤◌, [], map}
use Rattle.std.specs.Prelude.{vec_capacity}
use Rattle.node_table.specs.Table.{tree_of}
use Rattle.monitor_step.proofs.Serving.All.{IsServing}
use Rattle.monitor_step.proofs.serve.serve_all.Given as goal

abbrev pub invariant-loop-x : goal.invariant-loop-x
invariant-loop-x g l = record {
  serving :
      IsServing (map (tree_of l.fn.store.table) l.remembered) l.bits l.event l.entries l.fn.books
      l.x l.left l.books l.codes-inside.starts.items l.codes-inside.codes.items;
  start_room : l.fn.codes.start_room ≤ vec_capacity l.codes-inside.starts;
  code_room : l.fn.codes.code_room ≤ vec_capacity l.codes-inside.codes;
  room : l.store.table.room ≡ l.fn.store.table.room;
  nodes : l.store.table.nodes ≡ l.fn.store.table.nodes;
  entries : l.store.memo.entries ≡ l.fn.store.memo.entries;
  cost :
      l.steps ≤ l.initial.steps + l.x *
      ((2 ^ l.bits - 1) * ((l.fn.store.table.room + 2) * (2 * l.bits + 1)));
  idle : l.remembered ≡ [] → l.steps ≡ l.initial.steps;
}
