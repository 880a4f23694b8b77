use Rattle.std.proofs.Common.{ℕ, ◌+◌, ◌-◌, ◌<◌, refl, sym, ◌∙◌, subst, arith, true, false}
use Rattle.std.specs.Option.{option_map}
use Rattle.node_tree.specs.Tree.{IsOrderedFrom}
use Rattle.node_table.specs.Table.{tree_of}
use Rattle.bdd_ops.proofs.Walks.{below_next}
use Rattle.witness.specs.Searching.{CanLeave, IsLeastIfAny}
use Rattle.witness.proofs.Splitting.{high_child, least_at_code, least_of_children, low_child, none_below_one, one_tree, other_tree}
use Rattle.witness.proofs.least.+least_from.Goals as goal

pub returns-then-eq-clause-least : goal.returns-then-eq-clause-least
returns-then-eq-clause-least g t c =
    none_below_one c.args.book.now.pairs c.args.level c.args.bits c.args.from (tree_of c.args.table.now c.args.h)
    (one_tree c.args.table.now c.args.h c.one.result c.one.ensures.tree (sym c.eq.ensures ∙ c.if-eq.true))

pub returns-then-bits-eq0-clause-least : goal.returns-then-bits-eq0-clause-least
returns-then-bits-eq0-clause-least g t c =
    let tree = tree_of c.args.table.now c.args.h in
    let found = option_map (λ t. t.now) c.value_of.result in
    subst (λ (n : ℕ). IsLeastIfAny (CanLeave c.args.book.now.pairs c.args.level n c.args.from tree) found) (sym c.if-bits-eq0.true)
    (least_at_code c.args.book.now.pairs c.args.level c.args.from tree found
    (other_tree c.args.table.now c.args.h c.one.result c.live-held.ensures.shared c.requires.valid c.one.ensures.valid c.one.ensures.tree (sym c.eq.ensures ∙ c.if-eq.false))
    c.value_of.ensures.value)

pub least_from-least_low-requires : goal.least_from-least_low-requires
least_from-least_low-requires g t c κs within =
    let tree = tree_of c.args.table.now c.args.h in
    let low = low_child c.args.level _ tree (tree_of c.args.table.now c.walk-low.result) refl c.walk-low.ensures.tree in
    let below : IsOrderedFrom (c.args.level + 1) (tree_of c.args.table.now c.walk-low.result) =
    subst (IsOrderedFrom (c.args.level + 1)) (sym low) (below_next c.args.level false tree c.requires.below (c.live-held.ensures.shared.reduced c.args.h c.requires.valid)) in (
      subst (λ (n : ℕ). c.args.bits - 1 < n) c.decreases (omega (arith, c.if-bits-eq0.false)),
      (
        within,
        (
          c.walk-low.ensures.valid,
          (
            omega (arith, c.requires.width),
            (
              omega (arith, c.requires.block, c.if-bits-eq0.false),
              (omega (arith, c.requires.codes, c.half-half.ensures.power, c.half-half.ensures.half), below),
            ),
          ),
        ),
      ),
    )

pub least_from-least_high-requires : goal.least_from-least_high-requires
least_from-least_high-requires g t c κs within =
    let tree = tree_of c.args.table.now c.args.h in
    let high = high_child c.args.level _ tree (tree_of c.args.table.now c.walk-high.result) refl c.walk-high.ensures.tree in
    let below : IsOrderedFrom (c.args.level + 1) (tree_of c.args.table.now c.walk-high.result) =
    subst (IsOrderedFrom (c.args.level + 1)) (sym high) (below_next c.args.level true tree c.requires.below (c.live-held.ensures.shared.reduced c.args.h c.requires.valid)) in (
      subst (λ (n : ℕ). c.args.bits - 1 < n) c.decreases (omega (arith, c.if-bits-eq0.false)),
      (
        within,
        (
          c.walk-high.ensures.valid,
          (
            omega (arith, c.requires.width),
            (
              omega (arith, c.requires.block, c.if-bits-eq0.false),
              (omega (arith, c.requires.codes, c.half-half.ensures.power, c.half-half.ensures.half), below),
            ),
          ),
        ),
      ),
    )

pub returns-clause-least : goal.returns-clause-least
returns-clause-least g t c =
    let tree = tree_of c.args.table.now c.args.h in
    least_of_children c.args.book.now.pairs c.args.level c.args.bits c.args.from c.half-half.result tree _ _ _ _ _
    (omega (arith, c.if-bits-eq0.false)) c.half-half.ensures.power
    (low_child c.args.level _ tree (tree_of c.args.table.now c.walk-low.result) refl c.walk-low.ensures.tree)
    (high_child c.args.level _ tree (tree_of c.args.table.now c.walk-high.result) refl c.walk-high.ensures.tree)
    c.least_from-least_low.ensures.least c.least_from-least_high.ensures.least c.lesser_of.ensures

pub returns-clause-cost : goal.returns-clause-cost
returns-clause-cost g t c =
    omega (arith, c.walk-low.ensures.cost, c.walk-high.ensures.cost, c.least_from-least_low.ensures.cost, c.least_from-least_high.ensures.cost, c.half-half.ensures.power, c.half-half.ensures.half)
