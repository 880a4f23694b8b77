use Rattle.std.proofs.Common.{ℕ, ◌+◌, ◌*◌, ◌<◌, sym, ap, ◌∙◌, subst, refl, arith, rules}
use Rattle.op_cache.specs.Memo.{result_at, Adds}
use Rattle.bdd_ops.specs.Numbers.{number_of}
use Rattle.bdd_ops.specs.Applied.{depths}
use Rattle.bdd_ops.proofs.Memo.{stored_cases}
use Rattle.bdd_ops.proofs.Stages.{there, found, err_low, err_high, err_make, less_low, less_high, valid_high, can_make, absent, done}
use Rattle.bdd_ops.proofs.combine.+combine.Goals as goal

-- two calls take a level: `apply_parts` and `apply_nodes`
twice_less : (m n : ℕ) → m < n → 2 * m + 1 < 2 * n
twice_less m n h = omega (arith, h)

pub apply_parts-returns-in-Some : goal.apply_parts-returns-in-Some
apply_parts-returns-in-Some g t c = there c.args.op c.args.u c.args.v c.args.table.now c.args.cache.now c.args.steps.now c.live-held.ensures.shared c.requires.left c.requires.right c.requires.sound
    c.in-Some.known c.in-Some.ensures.0 c.in-Some.ensures.1

pub apply_nodes-returns-in-Some : goal.apply_nodes-returns-in-Some
apply_nodes-returns-in-Some g t c = found c.args.op c.args.u c.args.v c.args.table.now c.args.cache.now c.args.steps.now c.live-held.ensures.shared c.requires.left c.requires.right c.requires.sound
    c.in-Some.found (c.in-Some.ensures.found ∙ ap (λ k. result_at c.args.cache.now.pairs (record { op = k.op; left = k.left; right = k.right })) c.key.ensures)

pub apply_nodes-returns-in_err-low : goal.apply_nodes-returns-in_err-low
apply_nodes-returns-in_err-low g t c = err_low c.args.op c.args.u c.args.v c.args.table.now c.args.cache.now c.args.steps.now c.live-held.ensures.shared c.requires.left c.requires.right c.requires.sound
    c.take_apart-part.result c.take_apart-part.ensures.splits c.take_apart-part.new.steps c.take_apart-part.ensures.cost c.apply_parts.new.table c.apply_parts.new.cache
    c.apply_parts.new.steps c.apply_parts.result c.apply_parts.ensures c.from_residual.result (rw c.in_err-low.was refl) (search rules)

pub apply_nodes-apply_parts-requires : goal.apply_nodes-apply_parts-requires
apply_nodes-apply_parts-requires g t c κs inside = (
  subst (λ (n : ℕ). 2 * depths c.args.table.now c.take_apart-part.result.left_low c.take_apart-part.result.right_low + 1 < n) c.decreases (twice_less _ _ (less_low c.args.op c.args.u c.args.v c.args.table.now
      c.args.cache.now c.args.steps.now c.live-held.ensures.shared c.requires.left c.requires.right c.requires.sound c.take_apart-part.result c.take_apart-part.ensures.splits
      c.take_apart-part.new.steps c.take_apart-part.ensures.cost)),
  (inside, (c.take_apart-part.ensures.splits.left_low.0, (c.take_apart-part.ensures.splits.right_low.0, c.requires.sound))),
)

pub apply_nodes-apply_parts-requires-2 : goal.apply_nodes-apply_parts-requires-2
apply_nodes-apply_parts-requires-2 g t c κs inside =
    let v = valid_high c.args.op c.args.u c.args.v c.args.table.now c.args.cache.now c.args.steps.now c.live-held.ensures.shared c.requires.left c.requires.right c.requires.sound
    c.take_apart-part.result c.take_apart-part.ensures.splits c.take_apart-part.new.steps c.take_apart-part.ensures.cost c.apply_parts.new.table c.apply_parts.new.cache
    c.apply_parts.new.steps c.apply_parts.result c.apply_parts.ensures in (
      subst (λ (n : ℕ). 2 * depths c.apply_parts.new.table c.take_apart-part.result.left_high c.take_apart-part.result.right_high + 1 < n) c.decreases (twice_less _ _ (less_high c.args.op c.args.u c.args.v
          c.args.table.now c.args.cache.now c.args.steps.now c.live-held.ensures.shared c.requires.left c.requires.right c.requires.sound c.take_apart-part.result
          c.take_apart-part.ensures.splits c.take_apart-part.new.steps c.take_apart-part.ensures.cost c.apply_parts.new.table c.apply_parts.new.cache c.apply_parts.new.steps
          c.apply_parts.result c.apply_parts.ensures)),
      (inside, (v.0, (v.1, c.apply_parts.ensures.sound))),
    )

pub apply_nodes-returns-in_err-high : goal.apply_nodes-returns-in_err-high
apply_nodes-returns-in_err-high g t c = err_high c.args.op c.args.u c.args.v c.args.table.now c.args.cache.now c.args.steps.now c.live-held.ensures.shared c.requires.left c.requires.right
    c.requires.sound c.take_apart-part.result c.take_apart-part.ensures.splits c.take_apart-part.new.steps c.take_apart-part.ensures.cost c.apply_parts.new.table c.apply_parts.new.cache
    c.apply_parts.new.steps c.apply_parts.result c.apply_parts.ensures c.apply_parts-2.new.table c.apply_parts-2.new.cache c.apply_parts-2.new.steps c.apply_parts-2.result c.in_ok-low.low
    c.in_ok-low.was c.apply_parts-2.ensures c.from_residual-in_err-high.result (rw c.in_err-high.was refl) (search rules)

pub apply_nodes-make-requires : goal.apply_nodes-make-requires
apply_nodes-make-requires g t c = let m = can_make c.args.op c.args.u c.args.v c.args.table.now c.args.cache.now c.args.steps.now c.live-held.ensures.shared c.requires.left c.requires.right
    c.requires.sound c.take_apart-part.result c.take_apart-part.ensures.splits c.take_apart-part.new.steps c.take_apart-part.ensures.cost c.apply_parts.new.table c.apply_parts.new.cache
    c.apply_parts.new.steps c.apply_parts.result c.apply_parts.ensures c.apply_parts-2.new.table c.apply_parts-2.new.cache c.apply_parts-2.new.steps c.apply_parts-2.result c.in_ok-low.low
    c.in_ok-low.was c.apply_parts-2.ensures c.in_ok-high.high c.in_ok-high.was in record { low = m.0; high = m.1; below_low = m.2; below_high = m.3 }

pub apply_nodes-returns-in_err-made : goal.apply_nodes-returns-in_err-made
apply_nodes-returns-in_err-made g t c = err_make c.args.op c.args.u c.args.v c.args.table.now c.args.cache.now c.args.steps.now c.live-held.ensures.shared c.requires.left c.requires.right
    c.requires.sound c.take_apart-part.result c.take_apart-part.ensures.splits c.take_apart-part.new.steps c.take_apart-part.ensures.cost c.apply_parts.new.table c.apply_parts.new.cache
    c.apply_parts.new.steps c.apply_parts.result c.apply_parts.ensures c.apply_parts-2.new.table c.apply_parts-2.new.cache c.apply_parts-2.new.steps c.apply_parts-2.result c.in_ok-low.low
    c.in_ok-low.was c.apply_parts-2.ensures c.in_ok-high.high c.in_ok-high.was c.make.new.self c.from_residual-in_err-made.result c.in_err-made.ensures.err (search rules)
    (c.make.ensures.full.0 (rw c.in_err-made.was refl))

pub apply_nodes-store-requires : goal.apply_nodes-store-requires
apply_nodes-store-requires g t c = ap (λ k. result_at c.apply_parts-2.new.cache.pairs (record { op = k.op; left = k.left; right = k.right })) c.key-2.ensures ∙ absent c.args.op c.args.u c.args.v
    c.args.table.now c.args.cache.now c.args.steps.now c.live-held.ensures.shared c.requires.left c.requires.right c.requires.sound c.take_apart-part.result c.take_apart-part.ensures.splits
    c.take_apart-part.new.steps c.take_apart-part.ensures.cost c.apply_parts.new.table c.apply_parts.new.cache c.apply_parts.new.steps c.apply_parts.result c.apply_parts.ensures
    c.apply_parts-2.new.table c.apply_parts-2.new.cache c.apply_parts-2.new.steps c.apply_parts-2.result c.in_ok-low.low c.in_ok-low.was c.apply_parts-2.ensures (ap (λ k. result_at
    c.args.cache.now.pairs (record { op = k.op; left = k.left; right = k.right })) (sym c.key.ensures) ∙ sym c.in_default.ensures.found)

pub apply_nodes-returns : goal.apply_nodes-returns
apply_nodes-returns g t c =
    done c.args.op c.args.u c.args.v c.args.table.now c.args.cache.now c.args.steps.now c.live-held.ensures.shared c.requires.left c.requires.right c.requires.sound c.take_apart-part.result
    c.take_apart-part.ensures.splits c.take_apart-part.new.steps c.take_apart-part.ensures.cost c.apply_parts.new.table c.apply_parts.new.cache c.apply_parts.new.steps
    c.apply_parts.result c.apply_parts.ensures c.apply_parts-2.new.table c.apply_parts-2.new.cache c.apply_parts-2.new.steps c.apply_parts-2.result c.in_ok-low.low c.in_ok-low.was
    c.apply_parts-2.ensures c.in_ok-high.high c.in_ok-high.was c.make.new.self c.in_ok-made.made c.store.new.self c.in_ok-made.ensures.valid c.in_ok-made.ensures.tree c.make.ensures.kept
    c.in_ok-made.ensures.held c.make.ensures.shared c.store.ensures.entries
    (stored_cases c.store.result c.apply_parts-2.new.cache c.store.new.self (record { op = number_of c.args.op; left = c.args.u; right = c.args.v }) c.in_ok-made.made (c.store.ensures.full)
    (λ e. subst (λ k. Adds c.apply_parts-2.new.cache.pairs (record { op = k.op; left = k.left; right = k.right }) c.in_ok-made.made c.store.new.self.pairs) c.key-2.ensures
    (c.store.ensures.stored e)) c.store.ensures.kept)
