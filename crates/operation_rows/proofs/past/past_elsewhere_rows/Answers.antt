use Rattle.std.proofs.Common.{◌+◌, [], ◌∷◌, take, refl, sym, subst, arith, inl, inr}
use Rattle.node_tree.specs.Levels.{LevelsBelow}
use Rattle.node_table.specs.Table.{tree_of}
use Rattle.node_table.specs.Collects.{AllValid}
use Rattle.bdd_ops.specs.declared.op.Op.TheVariants.{Or, AndNot}
use Rattle.bdd_ops.proofs.Tries.{both_valid}
use Rattle.timed_bits.specs.Changes.{at_time, stamp}
use Rattle.timed_bits.specs.Entries.{IsAgeTree}
use Rattle.operation_rows.specs.Kinds.{applied}
use Rattle.operation_rows.specs.Lines.{EndsRows}
use Rattle.operation_rows.specs.Past.{past_stamped}
use Rattle.operation_rows.proofs.Lines.{stays_valid, end_err, end_more}
use Rattle.operation_rows.proofs.past.past_elsewhere_rows.Goals as goal

pub operate_row-requires-clause-letters : goal.operate_row-requires-clause-letters
operate_row-requires-clause-letters g c = both_valid c.args.store.now.table c.args.a c.args.y c.requires.kept c.requires.new

pub operate_row-requires-clause-left : goal.operate_row-requires-clause-left
operate_row-requires-clause-left g c = inl c.requires.child

pub operate_row-requires-clause-right : goal.operate_row-requires-clause-right
operate_row-requires-clause-right g c = inr (1, omega arith, refl)

pub past_stamped_rows-requires-clause-roots : goal.past_stamped_rows-requires-clause-roots
past_stamped_rows-requires-clause-roots g c = subst (AllValid c.operate_row.new.store.table) (sym c.operate_row.ensures.roots) (stays_valid c.args.store.now.table c.operate_row.new.store.table (take c.args.done c.args.handles.now) c.operate_row.ensures.row.roots_stay)

pub past_stamped_rows-requires-clause-kept : goal.past_stamped_rows-requires-clause-kept
past_stamped_rows-requires-clause-kept g c = (c.operate_row.ensures.row.letters_stay 0 (omega arith)).0

pub past_stamped_rows-requires-clause-before : goal.past_stamped_rows-requires-clause-before
past_stamped_rows-requires-clause-before g c = subst (LevelsBelow c.args.block.first) (sym c.in-Ok.ensures.row.is) c.requires.before

pub past_stamped_rows-requires-clause-ages : goal.past_stamped_rows-requires-clause-ages
past_stamped_rows-requires-clause-ages g c = subst (λ t. IsAgeTree c.args.block.first c.args.block.bits (applied Or t (stamp c.args.block.first c.args.block.bits (tree_of c.operate_row.new.store.table c.in-Ok.w)))) (sym (c.operate_row.ensures.row.letters_stay 0 (omega arith)).1) (subst (λ t. IsAgeTree c.args.block.first c.args.block.bits (applied Or (tree_of c.args.store.now.table c.args.a) (stamp c.args.block.first c.args.block.bits t))) (sym c.in-Ok.ensures.row.is) c.requires.ages)

pub returns-in-Ok-clause-made : goal.returns-in-Ok-clause-made
returns-in-Ok-clause-made g c =
    let rest = subst (λ rs. EndsRows (c.args.number + 1) (past_stamped c.args.block.first c.args.block.bits c.args.past (tree_of c.operate_row.new.store.table c.args.a) (tree_of c.operate_row.new.store.table c.in-Ok.w)) (at_time c.args.block.first c.args.block.bits c.args.past (applied Or (tree_of c.operate_row.new.store.table c.args.a) (stamp c.args.block.first c.args.block.bits (tree_of c.operate_row.new.store.table c.in-Ok.w)))) (applied Or (tree_of c.operate_row.new.store.table c.args.a) (stamp c.args.block.first c.args.block.bits (tree_of c.operate_row.new.store.table c.in-Ok.w))) rs c.operate_row.new.store.table c.past_stamped_rows.new.store.table c.past_stamped_rows.result) c.operate_row.ensures.roots c.past_stamped_rows.ensures.made in
    let kept = subst (λ t. EndsRows (c.args.number + 1) (past_stamped c.args.block.first c.args.block.bits c.args.past t (tree_of c.operate_row.new.store.table c.in-Ok.w)) (at_time c.args.block.first c.args.block.bits c.args.past (applied Or t (stamp c.args.block.first c.args.block.bits (tree_of c.operate_row.new.store.table c.in-Ok.w)))) (applied Or t (stamp c.args.block.first c.args.block.bits (tree_of c.operate_row.new.store.table c.in-Ok.w))) (take c.args.done c.args.handles.now) c.operate_row.new.store.table c.past_stamped_rows.new.store.table c.past_stamped_rows.result) (c.operate_row.ensures.row.letters_stay 0 (omega arith)).1 rest in
    end_more c.args.number (applied AndNot (tree_of c.args.store.now.table c.args.g) (tree_of c.args.store.now.table c.args.y)) (take c.args.done c.args.handles.now) (c.args.a ∷ c.args.y ∷ []) c.args.store.now.table c.operate_row.new.store.table c.in-Ok.w (past_stamped c.args.block.first c.args.block.bits c.args.past (tree_of c.args.store.now.table c.args.a) (applied AndNot (tree_of c.args.store.now.table c.args.g) (tree_of c.args.store.now.table c.args.y))) (at_time c.args.block.first c.args.block.bits c.args.past (applied Or (tree_of c.args.store.now.table c.args.a) (stamp c.args.block.first c.args.block.bits (applied AndNot (tree_of c.args.store.now.table c.args.g) (tree_of c.args.store.now.table c.args.y))))) (applied Or (tree_of c.args.store.now.table c.args.a) (stamp c.args.block.first c.args.block.bits (applied AndNot (tree_of c.args.store.now.table c.args.g) (tree_of c.args.store.now.table c.args.y)))) c.past_stamped_rows.new.store.table c.past_stamped_rows.result c.in-Ok.ensures.row
    (subst (λ t. EndsRows (c.args.number + 1) (past_stamped c.args.block.first c.args.block.bits c.args.past (tree_of c.args.store.now.table c.args.a) t) (at_time c.args.block.first c.args.block.bits c.args.past (applied Or (tree_of c.args.store.now.table c.args.a) (stamp c.args.block.first c.args.block.bits t))) (applied Or (tree_of c.args.store.now.table c.args.a) (stamp c.args.block.first c.args.block.bits t)) (take c.args.done c.args.handles.now) c.operate_row.new.store.table c.past_stamped_rows.new.store.table c.past_stamped_rows.result) c.in-Ok.ensures.row.is kept)

pub returns-in-Err-clause-made : goal.returns-in-Err-clause-made
returns-in-Err-clause-made g c = end_err c.args.number (applied AndNot (tree_of c.args.store.now.table c.args.g) (tree_of c.args.store.now.table c.args.y)) (take c.args.done c.args.handles.now) (c.args.a ∷ c.args.y ∷ []) c.args.store.now.table c.operate_row.new.store.table c.in-Err.full (past_stamped c.args.block.first c.args.block.bits c.args.past (tree_of c.args.store.now.table c.args.a) (applied AndNot (tree_of c.args.store.now.table c.args.g) (tree_of c.args.store.now.table c.args.y))) (at_time c.args.block.first c.args.block.bits c.args.past (applied Or (tree_of c.args.store.now.table c.args.a) (stamp c.args.block.first c.args.block.bits (applied AndNot (tree_of c.args.store.now.table c.args.g) (tree_of c.args.store.now.table c.args.y))))) (applied Or (tree_of c.args.store.now.table c.args.a) (stamp c.args.block.first c.args.block.bits (applied AndNot (tree_of c.args.store.now.table c.args.g) (tree_of c.args.store.now.table c.args.y)))) c.in-Err.ensures.row
