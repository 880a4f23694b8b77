use Rattle.std.proofs.Common.{ℕ, ◌<◌, sym, ap, ◌∙◌, subst, refl, rules}
use Rattle.op_cache.specs.Memo.{result_at, Adds}
use Rattle.bdd_ops.specs.Applied.{depths}
use Rattle.bdd_ops.specs.Level.{merge_number}
use Rattle.bdd_ops.proofs.Memo.{stored_cases}
use Rattle.bdd_ops.proofs.Descending.{below, found, here, err_low, err_high, err_make, less_low, less_high, valid_high, can_make, absent, done}
use Rattle.bdd_ops.proofs.level.+level_parts.Goals as goal

pub returns-in_default : goal.returns-in_default
returns-in_default g t c = below c.args.merge c.args.level c.args.h c.args.table.now c.args.cache.now c.args.steps.now (search rules) c.live-held.ensures.shared c.requires.valid
    c.requires.sound c.requires.remembers c.node_to.new.steps c.node_to.ensures.cost c.in_default.ensures.node

pub returns-then-node-level : goal.returns-then-node-level
returns-then-node-level g t c = here c.args.merge c.args.level c.args.h c.args.table.now c.args.cache.now c.args.steps.now (search rules) c.live-held.ensures.shared c.requires.valid
    c.requires.sound c.requires.remembers c.in-Some.node.level c.in-Some.node.low c.in-Some.node.high c.in-Some.ensures.node c.node_to.new.steps c.node_to.ensures.cost c.if-node-level.true
    c.merge_parts.new.table c.merge_parts.new.cache c.merge_parts.new.steps c.merge_parts.result c.merge_parts.ensures

pub returns-in-Some-find : goal.returns-in-Some-find
returns-in-Some-find g t c = found c.args.merge c.args.level c.args.h c.args.table.now c.args.cache.now c.args.steps.now (search rules) c.live-held.ensures.shared c.requires.valid
    c.requires.sound c.requires.remembers c.node_to.new.steps c.in-Some-find.found c.node_to.ensures.cost
    (c.in-Some-find.ensures.found ∙ ap (λ k. result_at c.args.cache.now.pairs (record { op = k.op; left = k.left; right = k.right })) c.key.ensures)

pub level_parts-requires : goal.level_parts-requires
level_parts-requires g t c κs inside = (
  subst (λ (n : ℕ). depths c.args.table.now c.in-Some.node.low c.in-Some.node.low < n) c.decreases (less_low c.args.merge c.args.level c.args.h c.args.table.now c.args.cache.now
      c.args.steps.now (search rules) c.live-held.ensures.shared c.requires.valid c.requires.sound c.requires.remembers c.in-Some.node.level c.in-Some.node.low c.in-Some.node.high
      c.in-Some.ensures.node c.node_to.new.steps c.node_to.ensures.cost (c.if-node-level.false)),
  (inside, (c.in-Some.ensures.node.low_valid, (c.requires.sound, c.requires.remembers))),
)

pub returns-in_err-low : goal.returns-in_err-low
returns-in_err-low g t c = err_low c.args.merge c.args.level c.args.h c.args.table.now c.args.cache.now c.args.steps.now (search rules) c.live-held.ensures.shared c.requires.valid
    c.requires.sound c.requires.remembers c.in-Some.node.level c.in-Some.node.low c.in-Some.node.high c.in-Some.ensures.node c.node_to.new.steps c.node_to.ensures.cost
    (c.if-node-level.false) c.level_parts.new.table c.level_parts.new.cache c.level_parts.new.steps c.level_parts.result c.level_parts.ensures c.from_residual.result (rw c.in_err-low.was
    refl) (search rules)

pub level_parts-requires-2 : goal.level_parts-requires-2
level_parts-requires-2 g t c κs inside = (
  subst (λ (n : ℕ). depths c.level_parts.new.table c.in-Some.node.high c.in-Some.node.high < n) c.decreases (less_high c.args.merge c.args.level c.args.h c.args.table.now c.args.cache.now
      c.args.steps.now (search rules) c.live-held.ensures.shared c.requires.valid c.requires.sound c.requires.remembers c.in-Some.node.level c.in-Some.node.low c.in-Some.node.high
      c.in-Some.ensures.node c.node_to.new.steps c.node_to.ensures.cost (c.if-node-level.false) c.level_parts.new.table c.level_parts.new.cache c.level_parts.new.steps c.level_parts.result
      c.level_parts.ensures),
  (
    inside,
    (
      valid_high c.args.merge c.args.level c.args.h c.args.table.now c.args.cache.now c.args.steps.now (search rules) c.live-held.ensures.shared
          c.requires.valid c.requires.sound c.requires.remembers c.in-Some.node.level c.in-Some.node.low c.in-Some.node.high c.in-Some.ensures.node c.node_to.new.steps c.node_to.ensures.cost
          (c.if-node-level.false) c.level_parts.new.table c.level_parts.new.cache c.level_parts.new.steps c.level_parts.result c.level_parts.ensures,
      (
        c.level_parts.ensures.sound,
        c.level_parts.ensures.remembers,
      ),
    ),
  ),
)

pub returns-in_err-high : goal.returns-in_err-high
returns-in_err-high g t c = err_high c.args.merge c.args.level c.args.h c.args.table.now c.args.cache.now c.args.steps.now (search rules) c.live-held.ensures.shared c.requires.valid
    c.requires.sound c.requires.remembers c.in-Some.node.level c.in-Some.node.low c.in-Some.node.high c.in-Some.ensures.node c.node_to.new.steps c.node_to.ensures.cost
    (c.if-node-level.false) c.level_parts.new.table c.level_parts.new.cache c.level_parts.new.steps c.level_parts.result c.level_parts.ensures c.level_parts-2.new.table
    c.level_parts-2.new.cache c.level_parts-2.new.steps c.level_parts-2.result c.in_ok-low.low c.in_ok-low.was c.level_parts-2.ensures c.from_residual-in_err-high.result (rw
    c.in_err-high.was refl) (search rules)

pub make-requires : goal.make-requires
make-requires g t c = let m = can_make c.args.merge c.args.level c.args.h c.args.table.now c.args.cache.now c.args.steps.now (search rules) c.live-held.ensures.shared c.requires.valid
    c.requires.sound c.requires.remembers c.in-Some.node.level c.in-Some.node.low c.in-Some.node.high c.in-Some.ensures.node c.node_to.new.steps c.node_to.ensures.cost
    (c.if-node-level.false) c.level_parts.new.table c.level_parts.new.cache c.level_parts.new.steps c.level_parts.result c.level_parts.ensures c.level_parts-2.new.table
    c.level_parts-2.new.cache c.level_parts-2.new.steps c.level_parts-2.result c.in_ok-low.low c.in_ok-low.was c.level_parts-2.ensures c.in_ok-high.high c.in_ok-high.was in record {
      low =
          m.0;
      high = m.1;
      below_low = m.2;
      below_high = m.3;
    }

pub returns-in_err-made : goal.returns-in_err-made
returns-in_err-made g t c = err_make c.args.merge c.args.level c.args.h c.args.table.now c.args.cache.now c.args.steps.now (search rules) c.live-held.ensures.shared c.requires.valid
    c.requires.sound c.requires.remembers c.in-Some.node.level c.in-Some.node.low c.in-Some.node.high c.in-Some.ensures.node c.node_to.new.steps c.node_to.ensures.cost
    (c.if-node-level.false) c.level_parts.new.table c.level_parts.new.cache c.level_parts.new.steps c.level_parts.result c.level_parts.ensures c.level_parts-2.new.table
    c.level_parts-2.new.cache c.level_parts-2.new.steps c.level_parts-2.result c.in_ok-low.low c.in_ok-low.was c.level_parts-2.ensures c.in_ok-high.high c.in_ok-high.was c.make.new.self
    c.from_residual-in_err-made.result c.in_err-made.ensures.err (search rules) (c.make.ensures.full.0 (rw c.in_err-made.was refl))

pub store-requires : goal.store-requires
store-requires g t c = ap (λ k. result_at c.level_parts-2.new.cache.pairs (record { op = k.op; left = k.left; right = k.right })) c.key-2.ensures ∙ absent c.args.merge c.args.level c.args.h
    c.args.table.now c.args.cache.now c.args.steps.now (search rules) c.live-held.ensures.shared c.requires.valid c.requires.sound c.requires.remembers c.in-Some.node.level
    c.in-Some.node.low c.in-Some.node.high c.in-Some.ensures.node c.node_to.new.steps c.node_to.ensures.cost (c.if-node-level.false) c.level_parts.new.table c.level_parts.new.cache
    c.level_parts.new.steps c.level_parts.result c.level_parts.ensures c.level_parts-2.new.table c.level_parts-2.new.cache c.level_parts-2.new.steps c.level_parts-2.result c.in_ok-low.low
    c.in_ok-low.was c.level_parts-2.ensures (ap (λ k. result_at c.args.cache.now.pairs (record { op = k.op; left = k.left; right = k.right })) (sym c.key.ensures) ∙ sym
    c.in_default-find.ensures.found)

pub returns : goal.returns
returns g t c =
    done c.args.merge c.args.level c.args.h c.args.table.now c.args.cache.now c.args.steps.now (search rules) c.live-held.ensures.shared c.requires.valid c.requires.sound
    c.requires.remembers c.in-Some.node.level c.in-Some.node.low c.in-Some.node.high c.in-Some.ensures.node c.node_to.new.steps c.node_to.ensures.cost (c.if-node-level.false)
    c.level_parts.new.table c.level_parts.new.cache c.level_parts.new.steps c.level_parts.result c.level_parts.ensures c.level_parts-2.new.table c.level_parts-2.new.cache
    c.level_parts-2.new.steps c.level_parts-2.result c.in_ok-low.low c.in_ok-low.was c.level_parts-2.ensures c.in_ok-high.high c.in_ok-high.was c.make.new.self c.in_ok-made.made
    c.store.new.self c.in_ok-made.ensures.valid c.in_ok-made.ensures.tree c.make.ensures.kept c.in_ok-made.ensures.held c.make.ensures.shared c.store.ensures.entries
    (stored_cases c.store.result c.level_parts-2.new.cache c.store.new.self (record { op = merge_number c.args.merge; left = c.args.h; right = c.args.h }) c.in_ok-made.made (c.store.ensures.full)
    (λ e. subst (λ k. Adds c.level_parts-2.new.cache.pairs (record { op = k.op; left = k.left; right = k.right }) c.in_ok-made.made c.store.new.self.pairs) c.key-2.ensures
    (c.store.ensures.stored e)) c.store.ensures.kept)
