use Rattle.std.proofs.Common.{[], ◌∷◌, ◌+◌, take, sym, subst}
use Rattle.std.specs.Prelude.{not}
use Rattle.node_table.specs.Table.{tree_of}
use Rattle.node_table.specs.Collects.{AllValid}
use Rattle.bdd_ops.specs.Apply.{map_leaves}
use Rattle.timed_bits.specs.Changes.{age_cap, at_time}
use Rattle.operation_rows.specs.Rows.{row}
use Rattle.operation_rows.specs.Always.{EndsNegated, negated_rows, past_never_rows, past_never_ages}
use Rattle.operation_rows.proofs.Lines.{stays_valid}
use Rattle.operation_rows.proofs.Negating.{then_negated, negated_stops}
use Rattle.operation_rows.proofs.always.always_more_than_rows.Goals as goal

pub negated_row-requires-clause-roots : goal.negated_row-requires-clause-roots
negated_row-requires-clause-roots g c = subst (AllValid c.once_not_more_than_rows.new.store.table) (sym c.once_not_more_than_rows.ensures.roots) (stays_valid c.args.store.now.table c.once_not_more_than_rows.new.store.table (take c.args.done c.args.handles.now) c.in-Ok.ensures.made.roots_stay)

pub negated_row-requires-clause-now : goal.negated_row-requires-clause-now
negated_row-requires-clause-now g c = c.in-Ok.ensures.made.now.0

pub negated_row-requires-clause-next : goal.negated_row-requires-clause-next
negated_row-requires-clause-next g c = c.in-Ok.ensures.made.next.0

pub returns-in-Ok-clause-made : goal.returns-in-Ok-clause-made
returns-in-Ok-clause-made g c =
    let a = age_cap c.args.block.first c.args.block.bits c.args.delta (c.args.n + 1) (tree_of c.args.store.now.table c.args.m) in
    let e = past_never_ages c.args.block.first c.args.block.bits a (tree_of c.args.store.now.table c.args.f) in
    let last = subst (λ rs. EndsNegated 8 (tree_of c.once_not_more_than_rows.new.store.table c.in-Ok.once.now) (tree_of c.once_not_more_than_rows.new.store.table c.in-Ok.once.next) rs c.once_not_more_than_rows.new.store.table c.negated_row.new.store.table c.negated_row.result) c.once_not_more_than_rows.ensures.roots c.negated_row.ensures.made in
    then_negated (row [] a ∷ past_never_rows c.args.block.first c.args.block.bits (c.args.n + 1) a (tree_of c.args.store.now.table c.args.f)) (at_time c.args.block.first c.args.block.bits (c.args.n + 1) e) e (take c.args.done c.args.handles.now) c.args.store.now.table c.once_not_more_than_rows.new.store.table c.negated_row.new.store.table c.in-Ok.once c.negated_row.result c.in-Ok.ensures.made last

pub returns-in-Err-clause-made : goal.returns-in-Err-clause-made
returns-in-Err-clause-made g c =
    let a = age_cap c.args.block.first c.args.block.bits c.args.delta (c.args.n + 1) (tree_of c.args.store.now.table c.args.m) in
    let e = past_never_ages c.args.block.first c.args.block.bits a (tree_of c.args.store.now.table c.args.f) in
    negated_stops (row [] a ∷ past_never_rows c.args.block.first c.args.block.bits (c.args.n + 1) a (tree_of c.args.store.now.table c.args.f)) (negated_rows (at_time c.args.block.first c.args.block.bits (c.args.n + 1) e) e) (at_time c.args.block.first c.args.block.bits (c.args.n + 1) e) e (map_leaves not (at_time c.args.block.first c.args.block.bits (c.args.n + 1) e)) e (take c.args.done c.args.handles.now) c.args.store.now.table c.once_not_more_than_rows.new.store.table c.in-Err.full c.in-Err.ensures.made
