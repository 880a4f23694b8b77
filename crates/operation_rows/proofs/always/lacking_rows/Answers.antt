use Rattle.std.proofs.Common.{[], ◌∷◌, take, refl, sym, subst, arith, inr}
use Rattle.node_tree.specs.Levels.{LevelsBelow}
use Rattle.node_table.specs.Table.{tree_of}
use Rattle.node_table.specs.Collects.{AllValid}
use Rattle.bdd_ops.specs.declared.op.Op.TheVariants.{Or, AndNot}
use Rattle.timed_bits.specs.Changes.{at_time, stamp}
use Rattle.timed_bits.specs.Entries.{IsAgeTree}
use Rattle.operation_rows.specs.Kinds.{applied}
use Rattle.operation_rows.specs.Past.{past_stamped}
use Rattle.operation_rows.specs.Always.{EndsPast, lacking_ages}
use Rattle.operation_rows.proofs.Lines.{stays_valid, end_err, end_more}
use Rattle.operation_rows.proofs.Negating.{of_two, told_two, three_valid}
use Rattle.operation_rows.proofs.always.lacking_rows.Goals as goal

pub operate_row-requires-clause-letters : goal.operate_row-requires-clause-letters
operate_row-requires-clause-letters g c = three_valid c.args.store.now.table c.args.a c.args.y c.args.o c.requires.kept c.requires.there c.requires.new

pub operate_row-requires-clause-left : goal.operate_row-requires-clause-left
operate_row-requires-clause-left g c = inr (2, omega arith, refl)

pub operate_row-requires-clause-right : goal.operate_row-requires-clause-right
operate_row-requires-clause-right g c = inr (1, omega arith, refl)

pub past_stamped_rows-requires-clause-roots : goal.past_stamped_rows-requires-clause-roots
past_stamped_rows-requires-clause-roots g c = subst (AllValid c.operate_row.new.store.table) (sym c.operate_row.ensures.roots) (stays_valid c.args.store.now.table c.operate_row.new.store.table (take c.args.done c.args.handles.now) c.operate_row.ensures.row.roots_stay)

pub past_stamped_rows-requires-clause-kept : goal.past_stamped_rows-requires-clause-kept
past_stamped_rows-requires-clause-kept g c = (c.operate_row.ensures.row.letters_stay 0 (omega arith)).0

pub past_stamped_rows-requires-clause-before : goal.past_stamped_rows-requires-clause-before
past_stamped_rows-requires-clause-before g c = subst (LevelsBelow c.args.block.first) (sym c.in-Ok.ensures.row.is) c.requires.before

pub past_stamped_rows-requires-clause-ages : goal.past_stamped_rows-requires-clause-ages
past_stamped_rows-requires-clause-ages g c = of_two (λ x y. IsAgeTree c.args.block.first c.args.block.bits (applied Or x (stamp c.args.block.first c.args.block.bits y))) _ _ _ _ (sym (c.operate_row.ensures.row.letters_stay 0 (omega arith)).1) (sym c.in-Ok.ensures.row.is) c.requires.ages

pub returns-in-Ok-clause-made : goal.returns-in-Ok-clause-made
returns-in-Ok-clause-made g c =
    let w = applied AndNot (tree_of c.args.store.now.table c.args.o) (tree_of c.args.store.now.table c.args.y) in
    let e = lacking_ages c.args.block.first c.args.block.bits (tree_of c.args.store.now.table c.args.a) (tree_of c.args.store.now.table c.args.y) (tree_of c.args.store.now.table c.args.o) in
    end_more 4 w (take c.args.done c.args.handles.now) (c.args.a ∷ c.args.y ∷ c.args.o ∷ []) c.args.store.now.table c.operate_row.new.store.table c.in-Ok.w (past_stamped c.args.block.first c.args.block.bits c.args.past (tree_of c.args.store.now.table c.args.a) w) (at_time c.args.block.first c.args.block.bits c.args.past e) e c.past_stamped_rows.new.store.table c.past_stamped_rows.result c.in-Ok.ensures.row
    (told_two (λ x y rs. EndsPast 5 c.args.block.first c.args.block.bits c.args.past (past_stamped c.args.block.first c.args.block.bits c.args.past x y) (applied Or x (stamp c.args.block.first c.args.block.bits y)) rs c.operate_row.new.store.table c.past_stamped_rows.new.store.table c.past_stamped_rows.result) _ _ _ _ _ _ (c.operate_row.ensures.row.letters_stay 0 (omega arith)).1 c.in-Ok.ensures.row.is c.operate_row.ensures.roots c.past_stamped_rows.ensures.made)

pub returns-in-Err-clause-made : goal.returns-in-Err-clause-made
returns-in-Err-clause-made g c =
    let w = applied AndNot (tree_of c.args.store.now.table c.args.o) (tree_of c.args.store.now.table c.args.y) in
    let e = lacking_ages c.args.block.first c.args.block.bits (tree_of c.args.store.now.table c.args.a) (tree_of c.args.store.now.table c.args.y) (tree_of c.args.store.now.table c.args.o) in
    end_err 4 w (take c.args.done c.args.handles.now) (c.args.a ∷ c.args.y ∷ c.args.o ∷ []) c.args.store.now.table c.operate_row.new.store.table c.in-Err.full (past_stamped c.args.block.first c.args.block.bits c.args.past (tree_of c.args.store.now.table c.args.a) w) (at_time c.args.block.first c.args.block.bits c.args.past e) e c.in-Err.ensures.row
