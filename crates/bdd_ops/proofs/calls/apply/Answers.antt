use Rattle.std.proofs.Common.{[], ◌∷◌, ◌∙◌, ap, arith}
use Rattle.op_cache.specs.Memo.{result_at}
use Rattle.bdd_ops.proofs.Tries.{stay_kept}
use Rattle.bdd_ops.proofs.Whole.{op_values, known_made, short_made, first_made, again_made, again_none}
use Rattle.bdd_ops.proofs.calls.apply.Goals as goal

-- The memo has the tree

pub returns-in-Some-clause-made : goal.returns-in-Some-clause-made
returns-in-Some-clause-made g c =
    known_made c.args.op c.args.u c.args.v c.args.roots.now c.args.store.now.table c.make_ready.new.self.table c.make_ready.ensures.nodes c.make_ready.ensures.operands c.make_ready.ensures.roots
    c.make_ready.new.self.memo c.in-Some.known c.live-held.ensures.shared c.make_ready.ensures.sound
    (c.in-Some.ensures ∙ ap (λ k. result_at c.make_ready.new.self.memo.pairs (record { op = k.op; left = k.left; right = k.right })) c.key.ensures)

pub returns-in-Some-clause-values : goal.returns-in-Some-clause-values
returns-in-Some-clause-values g c = op_values c.args.op c.args.u c.args.v c.args.store.now.table c.make_ready.new.self.table c.in-Some.known (known_made c.args.op c.args.u c.args.v
    c.args.roots.now c.args.store.now.table c.make_ready.new.self.table c.make_ready.ensures.nodes c.make_ready.ensures.operands c.make_ready.ensures.roots
    c.make_ready.new.self.memo c.in-Some.known c.live-held.ensures.shared c.make_ready.ensures.sound
    (c.in-Some.ensures ∙ ap (λ k. result_at c.make_ready.new.self.memo.pairs (record { op = k.op; left = k.left; right = k.right })) c.key.ensures)).is

-- The short try made the tree

pub returns-in-Some-apply_shortly-clause-made : goal.returns-in-Some-apply_shortly-clause-made
returns-in-Some-apply_shortly-clause-made g c =
    short_made c.args.op c.args.u c.args.v c.args.roots.now c.args.store.now.table c.make_ready.new.self.table c.make_ready.ensures.nodes c.make_ready.ensures.operands c.make_ready.ensures.roots
    c.apply_shortly.new.store.table c.in-Some-apply_shortly.made c.in-Some-apply_shortly.ensures.tried

pub returns-in-Some-apply_shortly-clause-values : goal.returns-in-Some-apply_shortly-clause-values
returns-in-Some-apply_shortly-clause-values g c = op_values c.args.op c.args.u c.args.v c.args.store.now.table c.apply_shortly.new.store.table c.in-Some-apply_shortly.made (short_made c.args.op c.args.u c.args.v
    c.args.roots.now c.args.store.now.table c.make_ready.new.self.table c.make_ready.ensures.nodes c.make_ready.ensures.operands c.make_ready.ensures.roots
    c.apply_shortly.new.store.table c.in-Some-apply_shortly.made c.in-Some-apply_shortly.ensures.tried).is

-- What it left is as ready as before

pub apply_inside-requires-clause-left : goal.apply_inside-requires-clause-left
apply_inside-requires-clause-left g c = (c.apply_shortly.ensures.tried.keeps.trees c.args.u (c.make_ready.ensures.operands 0 (omega arith)).0).0

pub apply_inside-requires-clause-right : goal.apply_inside-requires-clause-right
apply_inside-requires-clause-right g c = (c.apply_shortly.ensures.tried.keeps.trees c.args.v (c.make_ready.ensures.operands 1 (omega arith)).0).0

pub returns-in-Ok-clause-made : goal.returns-in-Ok-clause-made
returns-in-Ok-clause-made g c =
    let k = c.apply_shortly.ensures.tried.keeps in
    first_made c.args.op c.args.u c.args.v c.args.roots.now c.args.store.now.table c.apply_shortly.new.store.table (k.room ∙ c.make_ready.ensures.nodes)
    (stay_kept c.args.store.now.table c.make_ready.new.self.table c.apply_shortly.new.store.table (c.args.u ∷ c.args.v ∷ []) k c.make_ready.ensures.operands) (stay_kept c.args.store.now.table c.make_ready.new.self.table c.apply_shortly.new.store.table c.args.roots.now k c.make_ready.ensures.roots)
    c.apply_inside.new.store.table c.in-Ok.made c.in-Ok.ensures.applies.made

pub returns-in-Ok-clause-values : goal.returns-in-Ok-clause-values
returns-in-Ok-clause-values g c =
    let k = c.apply_shortly.ensures.tried.keeps in
    op_values c.args.op c.args.u c.args.v c.args.store.now.table c.apply_inside.new.store.table c.in-Ok.made (first_made c.args.op c.args.u c.args.v
    c.args.roots.now c.args.store.now.table c.apply_shortly.new.store.table (k.room ∙ c.make_ready.ensures.nodes)
    (stay_kept c.args.store.now.table c.make_ready.new.self.table c.apply_shortly.new.store.table (c.args.u ∷ c.args.v ∷ []) k c.make_ready.ensures.operands) (stay_kept c.args.store.now.table c.make_ready.new.self.table c.apply_shortly.new.store.table c.args.roots.now k c.make_ready.ensures.roots)
    c.apply_inside.new.store.table c.in-Ok.made c.in-Ok.ensures.applies.made).is

pub apply_inside-requires-2-clause-left : goal.apply_inside-requires-2-clause-left
apply_inside-requires-2-clause-left g c = c.tidy.ensures.collected.more_stay 0 (omega arith)

pub apply_inside-requires-2-clause-right : goal.apply_inside-requires-2-clause-right
apply_inside-requires-2-clause-right g c = c.tidy.ensures.collected.more_stay 1 (omega arith)

pub returns-in-Ok-apply_inside-clause-made : goal.returns-in-Ok-apply_inside-clause-made
returns-in-Ok-apply_inside-clause-made g c =
    let k = c.apply_shortly.ensures.tried.keeps in
    again_made c.args.op c.args.u c.args.v c.args.roots.now c.args.store.now.table c.apply_shortly.new.store.table (k.room ∙ c.make_ready.ensures.nodes)
    (stay_kept c.args.store.now.table c.make_ready.new.self.table c.apply_shortly.new.store.table (c.args.u ∷ c.args.v ∷ []) k c.make_ready.ensures.operands) (stay_kept c.args.store.now.table c.make_ready.new.self.table c.apply_shortly.new.store.table c.args.roots.now k c.make_ready.ensures.roots)
    c.apply_inside.new.store.table c.tidy.new.self.table c.apply_inside-2.new.store.table
    c.apply_inside.ensures.applies.made.grows.keeps c.tidy.ensures.collected c.in-Ok-apply_inside.made c.in-Ok-apply_inside.ensures.applies.made

pub returns-in-Ok-apply_inside-clause-values : goal.returns-in-Ok-apply_inside-clause-values
returns-in-Ok-apply_inside-clause-values g c =
    let k = c.apply_shortly.ensures.tried.keeps in
    op_values c.args.op c.args.u c.args.v c.args.store.now.table c.apply_inside-2.new.store.table c.in-Ok-apply_inside.made (again_made c.args.op
    c.args.u c.args.v c.args.roots.now c.args.store.now.table c.apply_shortly.new.store.table (k.room ∙ c.make_ready.ensures.nodes)
    (stay_kept c.args.store.now.table c.make_ready.new.self.table c.apply_shortly.new.store.table (c.args.u ∷ c.args.v ∷ []) k c.make_ready.ensures.operands) (stay_kept c.args.store.now.table c.make_ready.new.self.table c.apply_shortly.new.store.table c.args.roots.now k c.make_ready.ensures.roots)
    c.apply_inside.new.store.table c.tidy.new.self.table c.apply_inside-2.new.store.table c.apply_inside.ensures.applies.made.grows.keeps c.tidy.ensures.collected c.in-Ok-apply_inside.made
    c.in-Ok-apply_inside.ensures.applies.made).is

pub returns-in-Err-clause-made : goal.returns-in-Err-clause-made
returns-in-Err-clause-made g c =
    let k = c.apply_shortly.ensures.tried.keeps in
    again_none c.args.op c.args.u c.args.v c.args.roots.now c.args.store.now.table c.apply_shortly.new.store.table (k.room ∙ c.make_ready.ensures.nodes)
    (stay_kept c.args.store.now.table c.make_ready.new.self.table c.apply_shortly.new.store.table (c.args.u ∷ c.args.v ∷ []) k c.make_ready.ensures.operands) (stay_kept c.args.store.now.table c.make_ready.new.self.table c.apply_shortly.new.store.table c.args.roots.now k c.make_ready.ensures.roots)
    c.apply_inside.new.store.table c.tidy.new.self.table c.apply_inside-2.new.store.table
    c.apply_inside.ensures.applies.made.grows.keeps c.tidy.ensures.collected _ c.in-Err.field-0 c.in-Err.ensures.applies.made
