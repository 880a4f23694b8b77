use Rattle.std.proofs.Common.{[], ◌∷◌, refl, sym, ◌∙◌, subst, arith}
use Rattle.node_tree.specs.Tree.{Zero}
use Rattle.bdd_ops.proofs.Tries.{stay_valid, stay_collected}
use Rattle.bdd_ops.proofs.WholeLevel.{first_made, again_made, again_none}
use Rattle.timed_bits.specs.Changing.{changed, Accepts}
use Rattle.timed_bits.proofs.calls.change_ages.Goals as goal

pub change_whole-requires-clause-accepts : goal.change_whole-requires-clause-accepts
change_whole-requires-clause-accepts g c = subst (Accepts c.args.block.first c.args.block.bits c.args.change) (sym (c.make_ready.ensures.operands 0 (omega arith)).1) c.requires.accepts

pub returns-in-Ok-clause-made : goal.returns-in-Ok-clause-made
returns-in-Ok-clause-made g c = first_made (λ t. changed c.args.block.first c.args.block.bits c.args.change t) (c.args.h ∷ []) c.args.roots.now (omega arith) c.args.h refl c.args.store.now.table c.make_ready.new.self.table c.make_ready.ensures.nodes c.make_ready.ensures.operands c.make_ready.ensures.roots c.make_ready.new.self.table refl c.change_whole.new.store.table c.in-Ok.made c.in-Ok.ensures.made

pub change_whole-requires-2-clause-accepts : goal.change_whole-requires-2-clause-accepts
change_whole-requires-2-clause-accepts g c =
    let s = stay_collected Zero (c.args.h ∷ []) c.args.roots.now c.make_ready.new.self.table c.change_whole.new.store.table c.tidy.new.self.table c.tidy.new.self.table c.change_whole.ensures.made.grows.keeps
    (stay_valid c.args.store.now.table c.make_ready.new.self.table (c.args.h ∷ []) c.make_ready.ensures.operands) (stay_valid c.args.store.now.table c.make_ready.new.self.table c.args.roots.now c.make_ready.ensures.roots) c.tidy.ensures.collected in
    subst (Accepts c.args.block.first c.args.block.bits c.args.change) (sym ((s.0 0 (omega arith)).1 ∙ (c.make_ready.ensures.operands 0 (omega arith)).1)) c.requires.accepts

pub returns-in-Ok-change_whole-clause-made : goal.returns-in-Ok-change_whole-clause-made
returns-in-Ok-change_whole-clause-made g c =
    again_made (λ t. changed c.args.block.first c.args.block.bits c.args.change t) (c.args.h ∷ []) c.args.roots.now (omega arith) c.args.h refl c.args.store.now.table c.make_ready.new.self.table c.make_ready.ensures.nodes c.make_ready.ensures.operands c.make_ready.ensures.roots c.make_ready.new.self.table refl c.change_whole.new.store.table c.tidy.new.self.table c.change_whole-2.new.store.table c.change_whole.ensures.made.grows.keeps c.tidy.ensures.collected c.in-Ok-change_whole.made c.in-Ok-change_whole.ensures.made

pub returns-in-Err-clause-made : goal.returns-in-Err-clause-made
returns-in-Err-clause-made g c =
    again_none (λ t. changed c.args.block.first c.args.block.bits c.args.change t) (c.args.h ∷ []) c.args.roots.now (omega arith) c.args.h refl c.args.store.now.table c.make_ready.new.self.table c.make_ready.ensures.nodes c.make_ready.ensures.operands c.make_ready.ensures.roots c.make_ready.new.self.table refl c.change_whole.new.store.table c.tidy.new.self.table c.change_whole-2.new.store.table c.change_whole.ensures.made.grows.keeps c.tidy.ensures.collected _ c.in-Err.field-0 c.in-Err.ensures.made
