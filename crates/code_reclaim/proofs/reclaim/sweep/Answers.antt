use Rattle.std.proofs.Common.{◌≡◌, ◌∙◌, ℕ, ◌+◌, ◌*◌, ◌-◌, ◌^◌, ◌≤◌, length, map, take, min, ap, sym, subst, arith}
use Rattle.std.proofs.lemmas.List.{length-take-le}
use Rattle.node_table.specs.Table.{tree_of}
use Rattle.code_reclaim.specs.Swept.{stays, KeepsWithin}
use Rattle.code_reclaim.proofs.Searching.{same_trees}
use Rattle.code_reclaim.proofs.Sweeping.{swept, swept_on}
use Rattle.code_reclaim.proofs.reclaim.sweep.Goals as goal

-- steps for some codes more
paid_more : (from count each before there after : ℕ) → there ≤ before + from * each → after ≤ there + count * each → after ≤ before + (from + count) * each
paid_more from count each before there after a b = (let e = spread from count each in sum (from * each) (count * each) e a b)
  where
    spread : (x y z : ℕ) → (x + y) * z ≡ x * z + y * z
    spread x y z = omega arith

    sum : (p q : ℕ) → (from + count) * each ≡ p + q → there ≤ before + p → after ≤ there + q → after ≤ before + (from + count) * each
    sum p q e a b = omega (arith, e, a, b)

pub loop-from-preserved : goal.loop-from-preserved
loop-from-preserved g c =
    let i = c.loop-from.invariant in
    let s = c.sweep_range-released.ensures in
    let size : length (take c.min-count.result c.loop-from.candidates) ≡ c.min-count.result = length-take-le c.min-count.result c.loop-from.candidates (let a = c.min-count.array_long in omega (arith, a, c.min-count.ensures)) in
    let some : c.min-count.result ≡ min (c.all_ones-codes.result - c.loop-from.from) 65536 = c.min-count.ensures in
    record {
      room = s.room ∙ i.room;
      nodes = s.nodes ∙ i.nodes;
      swept = swept_on (stays (map (tree_of c.args.table.now) c.args.remembered.now) c.args.block.first c.args.block.bits c.args.needed.now) c.loop-from.from (c.loop-from.from + c.min-count.result)
          c.args.book.now.pairs c.loop-from.book.pairs c.sweep_range-released.new.book.pairs (omega arith) i.swept
          (subst (λ trees. KeepsWithin (stays trees c.args.block.first c.args.block.bits c.args.needed.now) c.loop-from.from (c.loop-from.from + c.min-count.result) c.loop-from.book.pairs c.sweep_range-released.new.book.pairs)
          (same_trees c.args.table.now c.loop-from.table i.nodes c.args.remembered.now)
          (subst (λ (n : ℕ). KeepsWithin (stays (map (tree_of c.loop-from.table) c.args.remembered.now) c.args.block.first c.args.block.bits c.args.needed.now) c.loop-from.from (c.loop-from.from + n) c.loop-from.book.pairs
          c.sweep_range-released.new.book.pairs) size s.swept));
      count = omega (arith, s.count, i.count);
      few = omega (arith, s.few, i.few, size);
      within = omega (arith, some, c.loop-from-test.true);
      bits = s.bits ∙ i.bits;
      sound = s.sound;
      cost = paid_more c.loop-from.from c.min-count.result ((c.args.table.now.room + 2) * (2 * c.args.block.bits + 1)) c.args.steps.now c.loop-from.steps c.sweep_range-released.new.steps i.cost
          (subst (λ (r : ℕ). c.sweep_range-released.new.steps ≤ c.loop-from.steps + c.min-count.result * ((r + 2) * (2 * c.args.block.bits + 1))) i.room
          (subst (λ (n : ℕ). c.sweep_range-released.new.steps ≤ c.loop-from.steps + n * ((c.loop-from.table.room + 2) * (2 * c.args.block.bits + 1))) size s.cost));
      idle = λ e. s.idle e ∙ i.idle e;
    }

pub returns-clause-swept : goal.returns-clause-swept
returns-clause-swept g c =
    let at_end : c.loop-from.from ≡ c.all_ones-codes.result = (let w = c.loop-from.invariant.within in omega arith) in
    swept (stays (map (tree_of c.args.table.now) c.args.remembered.now) c.args.block.first c.args.block.bits c.args.needed.now) c.loop-from.from c.args.book.now c.loop-from.book
    c.free_count-free.ensures.sound c.loop-from.invariant.sound
    (at_end ∙ c.all_ones-codes.ensures ∙ ap (λ (b : ℕ). 2 ^ b - 1) (sym c.requires.bits))
    c.loop-from.invariant.swept
