use Rattle.std.proofs.Common.{◌≡◌, [], ◌∷◌, refl, ap, sym, ◌∙◌}
use Rattle.node_table.specs.Table.{tree_of}
use Rattle.bdd_ops.proofs.Growing.{keeps_same}
use Rattle.bdd_ops.proofs.Tries.{stay_same, there_ends}
use Rattle.bdd_ops.proofs.WholeLevel.{one_valid}
use Rattle.timed_bits.specs.Changes.{age_cap}
use Rattle.timed_bits.proofs.Ages.{age_cap-now}
use Rattle.timed_bits.proofs.Taken.{ages-chains}
use Rattle.timed_bits.proofs.calls.age_cap.Goals as goal

pub returns-then-delta-eq0-clause-made : goal.returns-then-delta-eq0-clause-made
returns-then-delta-eq0-clause-made g c =
    let now : age_cap c.args.block.first c.args.block.bits c.args.delta c.args.cap (tree_of c.args.store.now.table c.args.h) ≡ tree_of c.args.store.now.table c.args.h =
    ap (λ x. age_cap c.args.block.first c.args.block.bits x c.args.cap (tree_of c.args.store.now.table c.args.h)) c.if-delta-eq0.true
    ∙ age_cap-now c.args.block.first c.args.block.bits c.args.cap (tree_of c.args.store.now.table c.args.h) c.requires.ages.0 c.requires.bound c.requires.ages.1 c.requires.ages.2 in
    there_ends (age_cap c.args.block.first c.args.block.bits c.args.delta c.args.cap (tree_of c.args.store.now.table c.args.h)) (c.args.h ∷ []) c.args.roots.now c.args.store.now.table c.args.store.now.table c.args.store.now.table refl
    (stay_same c.args.store.now.table (c.args.h ∷ []) (one_valid c.args.store.now.table c.args.h c.requires.valid)) (stay_same c.args.store.now.table c.args.roots.now c.requires.roots)
    c.args.h (keeps_same c.args.store.now.table) c.live-held.ensures.shared c.requires.valid (sym now)

pub change_ages-requires-clause-accepts : goal.change_ages-requires-clause-accepts
change_ages-requires-clause-accepts g c = ages-chains c.args.block.first c.args.block.bits (tree_of c.args.store.now.table c.args.h) c.requires.ages.0 c.requires.ages.1
