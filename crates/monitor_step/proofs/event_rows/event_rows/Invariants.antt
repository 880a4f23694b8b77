use Rattle.std.proofs.Common.{◌≡◌, ◌+◌, ◌*◌, ◌≤◌, take, map, length}
use Rattle.std.specs.Prelude.{drop}
use Rattle.std.specs.List.{sum_by}
use Rattle.node_table.specs.Table.{tree_of, IsShared}
use Rattle.node_table.specs.Collects.{AllValid}
use Rattle.bdd_ops.specs.Shelf.{handle_pairs, IsLarge}
use Rattle.subformulas.specs.OperationRows.{rows_of}
use Rattle.monitor_model.specs.Rows.{updates, full_from, nodes_full}
use Rattle.monitor_model.specs.State.{temporal_count}
use Rattle.monitor_step.specs.Frame.{sources_of}
use Rattle.monitor_step.proofs.Rows.Placed.{trees_after}
use Rattle.monitor_step.proofs.event_rows.event_rows.Given as goal

abbrev pub invariant-loop-k : goal.invariant-loop-k
invariant-loop-k g l =
    let before = map (tree_of l.fn.store.table) (take l.remembered l.fn.handles) in
    let source = sources_of l.plan l.fn.store.table.room l.frame before in
    record {
      next : l.next ≡ temporal_count (take l.k l.plan.subs);
      count : length l.handles ≡ length l.fn.handles;
      valid : AllValid l.store.table (take (2 * l.remembered + l.k) l.handles);
      trees : map (tree_of l.store.table) (take (2 * l.remembered + l.k) l.handles) ≡ trees_after source before l.k;
      fit : nodes_full source ≡ full_from source (l.k + 1) (drop l.k (updates source));
      room : l.store.table.room ≡ l.fn.store.table.room;
      shared : IsShared l.store.table;
      entries : l.store.memo.entries ≡ l.fn.store.memo.entries;
      cost : IsLarge l.fn.store → l.steps ≤ l.fn.steps + sum_by (λ s. rows_of s.kind l.frame.bits) (take l.k l.plan.subs) * (6 * handle_pairs l.fn.store.table);
    }
