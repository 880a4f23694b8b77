use Rattle.std.proofs.Common.{ℕ, ◌+◌, ◌-◌, ◌<◌, true, false, sym, subst, arith}
use Rattle.node_tree.specs.Tree.{IsOrderedFrom}
use Rattle.node_table.specs.Table.{tree_of}
use Rattle.bdd_ops.proofs.Walks.{below_next, upper_half}
use Rattle.bdd_ops.proofs.reading.+walk_from.Goals as goal

pub walk_from-requires : goal.walk_from-requires
walk_from-requires g t c κs inside =
    let below : IsOrderedFrom (c.args.level + 1) (tree_of c.args.table.now c.step_down-next.result) =
    subst (IsOrderedFrom (c.args.level + 1)) (sym c.step_down-next.ensures.tree) (below_next c.args.level true (tree_of c.args.table.now c.args.h) c.requires.below
    (c.live-held.ensures.shared.reduced c.args.h c.requires.valid)) in (
      subst (λ (n : ℕ). c.args.bits - 1 < n) c.decreases (omega (arith, c.if-bits-eq0.false)),
      (
        inside,
        (
          c.step_down-next.ensures.valid,
          (
            omega (arith, c.requires.width),
            (omega (arith, c.requires.block, c.if-bits-eq0.false), (upper_half c.args.bits c.args.code c.half-half.result c.half-half.ensures.half c.half-half.ensures.power c.requires.code, below)),
          ),
        ),
      ),
    )

pub walk_from-requires-else-half-code : goal.walk_from-requires-else-half-code
walk_from-requires-else-half-code g t c κs inside =
    let below : IsOrderedFrom (c.args.level + 1) (tree_of c.args.table.now c.step_down-next-else-half-code.result) =
    subst (IsOrderedFrom (c.args.level + 1)) (sym c.step_down-next-else-half-code.ensures.tree) (below_next c.args.level false (tree_of c.args.table.now c.args.h) c.requires.below
    (c.live-held.ensures.shared.reduced c.args.h c.requires.valid)) in (
      subst (λ (n : ℕ). c.args.bits - 1 < n) c.decreases (omega (arith, c.if-bits-eq0.false)),
      (
        inside,
        (
          c.step_down-next-else-half-code.ensures.valid,
          (omega (arith, c.requires.width), (omega (arith, c.requires.block, c.if-bits-eq0.false), (omega (arith, c.if-half-code.false, c.half-half.ensures.power), below))),
        ),
      ),
    )
