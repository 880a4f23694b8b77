use Rattle.std.proofs.Common.{[], ◌∷◌, take, refl, sym, subst, arith, inl, inr}
use Rattle.node_tree.specs.Levels.{LevelsBelow}
use Rattle.node_table.specs.Table.{tree_of}
use Rattle.node_table.specs.Collects.{AllValid}
use Rattle.bdd_ops.specs.declared.op.Op.TheVariants.{And}
use Rattle.timed_bits.specs.Changes.{at_time}
use Rattle.timed_bits.specs.Entries.{IsAgeTree}
use Rattle.operation_rows.specs.Kinds.{applied}
use Rattle.operation_rows.specs.Lines.{EndsRows}
use Rattle.operation_rows.specs.Past.{past_rows, past_ages, past_since_ages}
use Rattle.operation_rows.proofs.Lines.{valid_in, one_valid, stays_valid, stays_tree, end_err, end_more, within-ages}
use Rattle.operation_rows.proofs.past.since_after_cap.Goals as goal

pub operate_row-requires-clause-letters : goal.operate_row-requires-clause-letters
operate_row-requires-clause-letters g c = one_valid c.args.store.now.table c.args.c c.requires.letter

pub operate_row-requires-clause-left : goal.operate_row-requires-clause-left
operate_row-requires-clause-left g c = inl c.requires.left

pub operate_row-requires-clause-right : goal.operate_row-requires-clause-right
operate_row-requires-clause-right g c = inr (0, omega arith, refl)

pub past_all_rows-requires-clause-roots : goal.past_all_rows-requires-clause-roots
past_all_rows-requires-clause-roots g c = subst (AllValid c.operate_row.new.store.table) (sym c.operate_row.ensures.roots) (stays_valid c.args.store.now.table c.operate_row.new.store.table (take c.args.done c.args.handles.now) c.operate_row.ensures.row.roots_stay)

pub past_all_rows-requires-clause-before : goal.past_all_rows-requires-clause-before
past_all_rows-requires-clause-before g c = subst (LevelsBelow c.args.block.first) (sym (stays_tree c.args.store.now.table c.operate_row.new.store.table (take c.args.done c.args.handles.now) c.args.g c.operate_row.ensures.row.roots_stay c.requires.right).1) c.requires.before_right

pub past_all_rows-requires-clause-ages : goal.past_all_rows-requires-clause-ages
past_all_rows-requires-clause-ages g c =
    let valid = valid_in c.args.store.now.table (take c.args.done c.args.handles.now) c.args.f c.requires.roots c.requires.left in
    subst (IsAgeTree c.args.block.first c.args.block.bits) (sym c.in-Ok.ensures.row.is)
    (within-ages c.args.block.first c.args.block.bits (tree_of c.args.store.now.table c.args.c) (tree_of c.args.store.now.table c.args.f) (c.live-held.ensures.shared.ordered c.args.f valid) (c.live-held.ensures.shared.reduced c.args.f valid) c.requires.before_left c.requires.ages)

pub returns-in-Ok-clause-made : goal.returns-in-Ok-clause-made
returns-in-Ok-clause-made g c =
    let rest = subst (λ rs. EndsRows 3 (past_rows c.args.block.first c.args.block.bits c.args.past (tree_of c.operate_row.new.store.table c.args.g) (tree_of c.operate_row.new.store.table c.in-Ok.a)) (at_time c.args.block.first c.args.block.bits c.args.past (past_ages c.args.block.first c.args.block.bits (tree_of c.operate_row.new.store.table c.args.g) (tree_of c.operate_row.new.store.table c.in-Ok.a))) (past_ages c.args.block.first c.args.block.bits (tree_of c.operate_row.new.store.table c.args.g) (tree_of c.operate_row.new.store.table c.in-Ok.a)) rs c.operate_row.new.store.table c.past_all_rows.new.store.table c.past_all_rows.result) c.operate_row.ensures.roots c.past_all_rows.ensures.made in
    let child = subst (λ t. EndsRows 3 (past_rows c.args.block.first c.args.block.bits c.args.past t (tree_of c.operate_row.new.store.table c.in-Ok.a)) (at_time c.args.block.first c.args.block.bits c.args.past (past_ages c.args.block.first c.args.block.bits t (tree_of c.operate_row.new.store.table c.in-Ok.a))) (past_ages c.args.block.first c.args.block.bits t (tree_of c.operate_row.new.store.table c.in-Ok.a)) (take c.args.done c.args.handles.now) c.operate_row.new.store.table c.past_all_rows.new.store.table c.past_all_rows.result) (stays_tree c.args.store.now.table c.operate_row.new.store.table (take c.args.done c.args.handles.now) c.args.g c.operate_row.ensures.row.roots_stay c.requires.right).1 rest in
    end_more 2 (applied And (tree_of c.args.store.now.table c.args.f) (tree_of c.args.store.now.table c.args.c)) (take c.args.done c.args.handles.now) (c.args.c ∷ []) c.args.store.now.table c.operate_row.new.store.table c.in-Ok.a (past_rows c.args.block.first c.args.block.bits c.args.past (tree_of c.args.store.now.table c.args.g) (applied And (tree_of c.args.store.now.table c.args.f) (tree_of c.args.store.now.table c.args.c))) (at_time c.args.block.first c.args.block.bits c.args.past (past_since_ages c.args.block.first c.args.block.bits (tree_of c.args.store.now.table c.args.c) (tree_of c.args.store.now.table c.args.f) (tree_of c.args.store.now.table c.args.g))) (past_since_ages c.args.block.first c.args.block.bits (tree_of c.args.store.now.table c.args.c) (tree_of c.args.store.now.table c.args.f) (tree_of c.args.store.now.table c.args.g)) c.past_all_rows.new.store.table c.past_all_rows.result c.in-Ok.ensures.row
    (subst (λ t. EndsRows 3 (past_rows c.args.block.first c.args.block.bits c.args.past (tree_of c.args.store.now.table c.args.g) t) (at_time c.args.block.first c.args.block.bits c.args.past (past_ages c.args.block.first c.args.block.bits (tree_of c.args.store.now.table c.args.g) t)) (past_ages c.args.block.first c.args.block.bits (tree_of c.args.store.now.table c.args.g) t) (take c.args.done c.args.handles.now) c.operate_row.new.store.table c.past_all_rows.new.store.table c.past_all_rows.result) c.in-Ok.ensures.row.is child)

pub returns-in-Err-clause-made : goal.returns-in-Err-clause-made
returns-in-Err-clause-made g c = end_err 2 (applied And (tree_of c.args.store.now.table c.args.f) (tree_of c.args.store.now.table c.args.c)) (take c.args.done c.args.handles.now) (c.args.c ∷ []) c.args.store.now.table c.operate_row.new.store.table c.in-Err.full (past_rows c.args.block.first c.args.block.bits c.args.past (tree_of c.args.store.now.table c.args.g) (applied And (tree_of c.args.store.now.table c.args.f) (tree_of c.args.store.now.table c.args.c))) (at_time c.args.block.first c.args.block.bits c.args.past (past_since_ages c.args.block.first c.args.block.bits (tree_of c.args.store.now.table c.args.c) (tree_of c.args.store.now.table c.args.f) (tree_of c.args.store.now.table c.args.g))) (past_since_ages c.args.block.first c.args.block.bits (tree_of c.args.store.now.table c.args.c) (tree_of c.args.store.now.table c.args.f) (tree_of c.args.store.now.table c.args.g)) c.in-Err.ensures.row
