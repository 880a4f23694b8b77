use Rattle.std.proofs.Common.{◌+◌, [], ◌∷◌, take, refl, sym, subst, arith, inr}
use Rattle.node_tree.specs.Levels.{LevelsBelow}
use Rattle.node_table.specs.Table.{tree_of}
use Rattle.node_table.specs.Collects.{AllValid}
use Rattle.bdd_ops.specs.declared.op.Op.TheVariants.{Or, AndNot}
use Rattle.timed_bits.specs.Changes.{any_time, at_time, stamp}
use Rattle.timed_bits.specs.Entries.{IsAgeTree}
use Rattle.operation_rows.specs.Kinds.{applied}
use Rattle.operation_rows.specs.Lines.{EndsRows}
use Rattle.operation_rows.specs.Past.{past_elsewhere, past_ages}
use Rattle.operation_rows.proofs.Lines.{valid_in, one_valid, stays_valid, stays_tree, end_err, end_more}
use Rattle.operation_rows.proofs.PastAges.{past-ages, past-below}
use Rattle.operation_rows.proofs.past.past_all_rows.Goals as goal

pub any_row-requires-clause-letters : goal.any_row-requires-clause-letters
any_row-requires-clause-letters g c = one_valid c.args.store.now.table c.args.a c.requires.letter

pub any_row-requires-clause-operand : goal.any_row-requires-clause-operand
any_row-requires-clause-operand g c = inr (0, omega arith, refl)

pub past_elsewhere_rows-requires-clause-roots : goal.past_elsewhere_rows-requires-clause-roots
past_elsewhere_rows-requires-clause-roots g c = subst (AllValid c.any_row.new.store.table) (sym c.any_row.ensures.roots) (stays_valid c.args.store.now.table c.any_row.new.store.table (take c.args.done c.args.handles.now) c.any_row.ensures.row.roots_stay)

pub past_elsewhere_rows-requires-clause-kept : goal.past_elsewhere_rows-requires-clause-kept
past_elsewhere_rows-requires-clause-kept g c = (c.any_row.ensures.row.letters_stay 0 (omega arith)).0

pub past_elsewhere_rows-requires-clause-before : goal.past_elsewhere_rows-requires-clause-before
past_elsewhere_rows-requires-clause-before g c =
    let valid = valid_in c.args.store.now.table (take c.args.done c.args.handles.now) c.args.g c.requires.roots c.requires.child in let o = c.live-held.ensures.shared.ordered c.args.g valid in let r = c.live-held.ensures.shared.reduced c.args.g valid in
    subst (λ t. LevelsBelow c.args.block.first (applied AndNot t (tree_of c.any_row.new.store.table c.in-Ok.y))) (sym (stays_tree c.args.store.now.table c.any_row.new.store.table (take c.args.done c.args.handles.now) c.args.g c.any_row.ensures.row.roots_stay c.requires.child).1) (subst (λ t. LevelsBelow c.args.block.first (applied AndNot (tree_of c.args.store.now.table c.args.g) t)) (sym c.in-Ok.ensures.row.is) (past-below c.args.block.first c.args.block.bits (tree_of c.args.store.now.table c.args.g) (tree_of c.args.store.now.table c.args.a) o r c.requires.before c.requires.ages))

pub past_elsewhere_rows-requires-clause-ages : goal.past_elsewhere_rows-requires-clause-ages
past_elsewhere_rows-requires-clause-ages g c =
    let valid = valid_in c.args.store.now.table (take c.args.done c.args.handles.now) c.args.g c.requires.roots c.requires.child in let o = c.live-held.ensures.shared.ordered c.args.g valid in let r = c.live-held.ensures.shared.reduced c.args.g valid in
    subst (λ t. IsAgeTree c.args.block.first c.args.block.bits (applied Or t (stamp c.args.block.first c.args.block.bits (applied AndNot (tree_of c.any_row.new.store.table c.args.g) (tree_of c.any_row.new.store.table c.in-Ok.y))))) (sym (c.any_row.ensures.row.letters_stay 0 (omega arith)).1) (subst (λ t. IsAgeTree c.args.block.first c.args.block.bits (applied Or (tree_of c.args.store.now.table c.args.a) (stamp c.args.block.first c.args.block.bits (applied AndNot t (tree_of c.any_row.new.store.table c.in-Ok.y))))) (sym (stays_tree c.args.store.now.table c.any_row.new.store.table (take c.args.done c.args.handles.now) c.args.g c.any_row.ensures.row.roots_stay c.requires.child).1) (subst (λ t. IsAgeTree c.args.block.first c.args.block.bits (applied Or (tree_of c.args.store.now.table c.args.a) (stamp c.args.block.first c.args.block.bits (applied AndNot (tree_of c.args.store.now.table c.args.g) t)))) (sym c.in-Ok.ensures.row.is) (past-ages c.args.block.first c.args.block.bits (tree_of c.args.store.now.table c.args.g) (tree_of c.args.store.now.table c.args.a) o r c.requires.before c.requires.ages)))

pub returns-in-Ok-clause-made : goal.returns-in-Ok-clause-made
returns-in-Ok-clause-made g c =
    let rest = subst (λ rs. EndsRows (c.args.number + 1) (past_elsewhere c.args.block.first c.args.block.bits c.args.past (tree_of c.any_row.new.store.table c.args.g) (tree_of c.any_row.new.store.table c.args.a) (tree_of c.any_row.new.store.table c.in-Ok.y)) (at_time c.args.block.first c.args.block.bits c.args.past (applied Or (tree_of c.any_row.new.store.table c.args.a) (stamp c.args.block.first c.args.block.bits (applied AndNot (tree_of c.any_row.new.store.table c.args.g) (tree_of c.any_row.new.store.table c.in-Ok.y))))) (applied Or (tree_of c.any_row.new.store.table c.args.a) (stamp c.args.block.first c.args.block.bits (applied AndNot (tree_of c.any_row.new.store.table c.args.g) (tree_of c.any_row.new.store.table c.in-Ok.y)))) rs c.any_row.new.store.table c.past_elsewhere_rows.new.store.table c.past_elsewhere_rows.result) c.any_row.ensures.roots c.past_elsewhere_rows.ensures.made in
    let kept = subst (λ t. EndsRows (c.args.number + 1) (past_elsewhere c.args.block.first c.args.block.bits c.args.past (tree_of c.any_row.new.store.table c.args.g) t (tree_of c.any_row.new.store.table c.in-Ok.y)) (at_time c.args.block.first c.args.block.bits c.args.past (applied Or t (stamp c.args.block.first c.args.block.bits (applied AndNot (tree_of c.any_row.new.store.table c.args.g) (tree_of c.any_row.new.store.table c.in-Ok.y))))) (applied Or t (stamp c.args.block.first c.args.block.bits (applied AndNot (tree_of c.any_row.new.store.table c.args.g) (tree_of c.any_row.new.store.table c.in-Ok.y)))) (take c.args.done c.args.handles.now) c.any_row.new.store.table c.past_elsewhere_rows.new.store.table c.past_elsewhere_rows.result) (c.any_row.ensures.row.letters_stay 0 (omega arith)).1 rest in
    let child = subst (λ t. EndsRows (c.args.number + 1) (past_elsewhere c.args.block.first c.args.block.bits c.args.past t (tree_of c.args.store.now.table c.args.a) (tree_of c.any_row.new.store.table c.in-Ok.y)) (at_time c.args.block.first c.args.block.bits c.args.past (applied Or (tree_of c.args.store.now.table c.args.a) (stamp c.args.block.first c.args.block.bits (applied AndNot t (tree_of c.any_row.new.store.table c.in-Ok.y))))) (applied Or (tree_of c.args.store.now.table c.args.a) (stamp c.args.block.first c.args.block.bits (applied AndNot t (tree_of c.any_row.new.store.table c.in-Ok.y)))) (take c.args.done c.args.handles.now) c.any_row.new.store.table c.past_elsewhere_rows.new.store.table c.past_elsewhere_rows.result) (stays_tree c.args.store.now.table c.any_row.new.store.table (take c.args.done c.args.handles.now) c.args.g c.any_row.ensures.row.roots_stay c.requires.child).1 kept in
    end_more c.args.number (any_time c.args.block.first c.args.block.bits (tree_of c.args.store.now.table c.args.a)) (take c.args.done c.args.handles.now) (c.args.a ∷ []) c.args.store.now.table c.any_row.new.store.table c.in-Ok.y (past_elsewhere c.args.block.first c.args.block.bits c.args.past (tree_of c.args.store.now.table c.args.g) (tree_of c.args.store.now.table c.args.a) (any_time c.args.block.first c.args.block.bits (tree_of c.args.store.now.table c.args.a))) (at_time c.args.block.first c.args.block.bits c.args.past (past_ages c.args.block.first c.args.block.bits (tree_of c.args.store.now.table c.args.g) (tree_of c.args.store.now.table c.args.a))) (past_ages c.args.block.first c.args.block.bits (tree_of c.args.store.now.table c.args.g) (tree_of c.args.store.now.table c.args.a)) c.past_elsewhere_rows.new.store.table c.past_elsewhere_rows.result c.in-Ok.ensures.row
    (subst (λ t. EndsRows (c.args.number + 1) (past_elsewhere c.args.block.first c.args.block.bits c.args.past (tree_of c.args.store.now.table c.args.g) (tree_of c.args.store.now.table c.args.a) t) (at_time c.args.block.first c.args.block.bits c.args.past (applied Or (tree_of c.args.store.now.table c.args.a) (stamp c.args.block.first c.args.block.bits (applied AndNot (tree_of c.args.store.now.table c.args.g) t)))) (applied Or (tree_of c.args.store.now.table c.args.a) (stamp c.args.block.first c.args.block.bits (applied AndNot (tree_of c.args.store.now.table c.args.g) t))) (take c.args.done c.args.handles.now) c.any_row.new.store.table c.past_elsewhere_rows.new.store.table c.past_elsewhere_rows.result) c.in-Ok.ensures.row.is child)

pub returns-in-Err-clause-made : goal.returns-in-Err-clause-made
returns-in-Err-clause-made g c = end_err c.args.number (any_time c.args.block.first c.args.block.bits (tree_of c.args.store.now.table c.args.a)) (take c.args.done c.args.handles.now) (c.args.a ∷ []) c.args.store.now.table c.any_row.new.store.table c.in-Err.full (past_elsewhere c.args.block.first c.args.block.bits c.args.past (tree_of c.args.store.now.table c.args.g) (tree_of c.args.store.now.table c.args.a) (any_time c.args.block.first c.args.block.bits (tree_of c.args.store.now.table c.args.a))) (at_time c.args.block.first c.args.block.bits c.args.past (past_ages c.args.block.first c.args.block.bits (tree_of c.args.store.now.table c.args.g) (tree_of c.args.store.now.table c.args.a))) (past_ages c.args.block.first c.args.block.bits (tree_of c.args.store.now.table c.args.g) (tree_of c.args.store.now.table c.args.a)) c.in-Err.ensures.row
