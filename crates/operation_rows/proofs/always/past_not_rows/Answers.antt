use Rattle.std.proofs.Common.{[], ◌∷◌, take, sym, subst, arith, inl}
use Rattle.std.specs.Prelude.{not}
use Rattle.node_tree.specs.Levels.{LevelsBelow}
use Rattle.node_table.specs.Table.{tree_of}
use Rattle.node_table.specs.Collects.{AllValid}
use Rattle.bdd_ops.specs.declared.op.Op.TheVariants.{AndNot}
use Rattle.bdd_ops.specs.Apply.{map_leaves}
use Rattle.timed_bits.specs.Changes.{at_time}
use Rattle.bdd_ops.proofs.Tries.{both_valid}
use Rattle.timed_bits.specs.Entries.{IsAgeTree}
use Rattle.operation_rows.specs.Kinds.{applied}
use Rattle.operation_rows.specs.Always.{EndsPast, lacking_ages, lacking_rows}
use Rattle.operation_rows.proofs.Lines.{stays_valid, end_err, end_more}
use Rattle.operation_rows.proofs.Negating.{of_two, of_three, told_three}
use Rattle.operation_rows.proofs.always.past_not_rows.Goals as goal

pub negation_row-requires-clause-letters : goal.negation_row-requires-clause-letters
negation_row-requires-clause-letters g c = both_valid c.args.store.now.table c.args.a c.args.y c.requires.kept c.requires.there

pub negation_row-requires-clause-operand : goal.negation_row-requires-clause-operand
negation_row-requires-clause-operand g c = inl c.requires.child

pub lacking_rows-requires-clause-roots : goal.lacking_rows-requires-clause-roots
lacking_rows-requires-clause-roots g c = subst (AllValid c.negation_row.new.store.table) (sym c.negation_row.ensures.roots) (stays_valid c.args.store.now.table c.negation_row.new.store.table (take c.args.done c.args.handles.now) c.negation_row.ensures.row.roots_stay)

pub lacking_rows-requires-clause-kept : goal.lacking_rows-requires-clause-kept
lacking_rows-requires-clause-kept g c = (c.negation_row.ensures.row.letters_stay 0 (omega arith)).0

pub lacking_rows-requires-clause-there : goal.lacking_rows-requires-clause-there
lacking_rows-requires-clause-there g c = (c.negation_row.ensures.row.letters_stay 1 (omega arith)).0

pub lacking_rows-requires-clause-before : goal.lacking_rows-requires-clause-before
lacking_rows-requires-clause-before g c = of_two (λ x y. LevelsBelow c.args.block.first (applied AndNot x y)) _ _ _ _ (sym c.in-Ok.ensures.row.is) (sym (c.negation_row.ensures.row.letters_stay 1 (omega arith)).1) c.requires.before

pub lacking_rows-requires-clause-ages : goal.lacking_rows-requires-clause-ages
lacking_rows-requires-clause-ages g c = of_three (λ x y z. IsAgeTree c.args.block.first c.args.block.bits (lacking_ages c.args.block.first c.args.block.bits x y z)) _ _ _ _ _ _ (sym (c.negation_row.ensures.row.letters_stay 0 (omega arith)).1) (sym (c.negation_row.ensures.row.letters_stay 1 (omega arith)).1) (sym c.in-Ok.ensures.row.is) c.requires.ages

pub returns-in-Ok-clause-made : goal.returns-in-Ok-clause-made
returns-in-Ok-clause-made g c =
    let o = map_leaves not (tree_of c.args.store.now.table c.args.f) in
    let e = lacking_ages c.args.block.first c.args.block.bits (tree_of c.args.store.now.table c.args.a) (tree_of c.args.store.now.table c.args.y) o in
    end_more 3 o (take c.args.done c.args.handles.now) (c.args.a ∷ c.args.y ∷ []) c.args.store.now.table c.negation_row.new.store.table c.in-Ok.o (lacking_rows c.args.block.first c.args.block.bits c.args.past (tree_of c.args.store.now.table c.args.a) (tree_of c.args.store.now.table c.args.y) o) (at_time c.args.block.first c.args.block.bits c.args.past e) e c.lacking_rows.new.store.table c.lacking_rows.result c.in-Ok.ensures.row
    (told_three (λ x y z rs. EndsPast 4 c.args.block.first c.args.block.bits c.args.past (lacking_rows c.args.block.first c.args.block.bits c.args.past x y z) (lacking_ages c.args.block.first c.args.block.bits x y z) rs c.negation_row.new.store.table c.lacking_rows.new.store.table c.lacking_rows.result) _ _ _ _ _ _ _ _ (c.negation_row.ensures.row.letters_stay 0 (omega arith)).1 (c.negation_row.ensures.row.letters_stay 1 (omega arith)).1 c.in-Ok.ensures.row.is c.negation_row.ensures.roots c.lacking_rows.ensures.made)

pub returns-in-Err-clause-made : goal.returns-in-Err-clause-made
returns-in-Err-clause-made g c =
    let o = map_leaves not (tree_of c.args.store.now.table c.args.f) in
    let e = lacking_ages c.args.block.first c.args.block.bits (tree_of c.args.store.now.table c.args.a) (tree_of c.args.store.now.table c.args.y) o in
    end_err 3 o (take c.args.done c.args.handles.now) (c.args.a ∷ c.args.y ∷ []) c.args.store.now.table c.negation_row.new.store.table c.in-Err.full (lacking_rows c.args.block.first c.args.block.bits c.args.past (tree_of c.args.store.now.table c.args.a) (tree_of c.args.store.now.table c.args.y) o) (at_time c.args.block.first c.args.block.bits c.args.past e) e c.in-Err.ensures.row
