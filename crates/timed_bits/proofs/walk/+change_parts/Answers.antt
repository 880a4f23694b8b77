use Rattle.std.proofs.Common.{ℕ, ◌<◌, sym, subst, refl, arith, rules}
use Rattle.node_tree.specs.Tree.{depth, IsOrderedFrom}
use Rattle.node_table.specs.Table.{tree_of}
use Rattle.timed_bits.specs.Changing.{changed, Accepts}
use Rattle.timed_bits.specs.Walks.{IsNodeBefore}
use Rattle.timed_bits.proofs.Taken.{change_joins, accepts-low, accepts-high}
use Rattle.timed_bits.proofs.Walking.{found, deep_low, ordered, err_low, less_high, err_high, can_make, err_make, can_note, done}
use Rattle.timed_bits.proofs.walk.+change_parts.Goals as goal

pub returns-in-Some-clause-walks : goal.returns-in-Some-clause-walks
returns-in-Some-clause-walks g t c = found (λ t. changed c.args.block.first c.args.block.bits c.args.change t) c.args.block.first c.args.h c.args.store.now.table c.args.steps.now (omega (arith, c.requires.block)) (change_joins c.args.block.first c.args.block.bits c.args.change) c.live-held.ensures.shared c.requires.valid c.requires.noted c.in-Some.found c.in-Some.ensures

pub note_entry-requires-clause-ordered : goal.note_entry-requires-clause-ordered
note_entry-requires-clause-ordered g t c = subst (λ t. IsOrderedFrom c.args.block.first (tree_of t c.args.h)) c.table.ensures c.in_default-node_before.ensures.node

pub returns-in_default-node_before-clause-walks : goal.returns-in_default-node_before-clause-walks
returns-in_default-node_before-clause-walks g t c = c.note_entry.ensures.walks c.args.steps.now c.node_before.ensures.cost

pub change_parts-requires : goal.change_parts-requires
change_parts-requires g t c κs within =
    let ab = (subst (λ t. IsNodeBefore t c.args.h c.args.block.first c.in-Some-node_before.node.level c.in-Some-node_before.node.low c.in-Some-node_before.node.high) c.table.ensures c.in-Some-node_before.ensures.node) in
    let o = ordered (λ t. changed c.args.block.first c.args.block.bits c.args.change t) c.args.block.first c.args.h c.args.store.now.table c.args.steps.now (omega (arith, c.requires.block)) (change_joins c.args.block.first c.args.block.bits c.args.change) c.live-held.ensures.shared c.requires.valid c.requires.noted c.in-Some-node_before.node.level c.in-Some-node_before.node.low c.in-Some-node_before.node.high (subst (λ t. IsNodeBefore t c.args.h c.args.block.first c.in-Some-node_before.node.level c.in-Some-node_before.node.low c.in-Some-node_before.node.high) c.table.ensures c.in-Some-node_before.ensures.node) c.node_before.new.steps c.node_before.ensures.cost in (
      subst (λ (n : ℕ). depth (tree_of c.args.store.now.table c.in-Some-node_before.node.low) < n) c.decreases (deep_low (λ t. changed c.args.block.first c.args.block.bits c.args.change t) c.args.block.first c.args.h c.args.store.now.table c.args.steps.now (omega (arith, c.requires.block)) (change_joins c.args.block.first c.args.block.bits c.args.change) c.live-held.ensures.shared c.requires.valid c.requires.noted c.in-Some-node_before.node.level c.in-Some-node_before.node.low c.in-Some-node_before.node.high (subst (λ t. IsNodeBefore t c.args.h c.args.block.first c.in-Some-node_before.node.level c.in-Some-node_before.node.low c.in-Some-node_before.node.high) c.table.ensures c.in-Some-node_before.ensures.node) c.node_before.new.steps c.node_before.ensures.cost),
      (
        within,
        (
          c.requires.width,
          (
            c.requires.block,
            (
              ab.low_valid,
              (
                c.requires.fits,
                (
                  accepts-low c.args.block.first c.args.block.bits c.args.change c.in-Some-node_before.node.level (tree_of c.args.store.now.table c.in-Some-node_before.node.low) (tree_of c.args.store.now.table c.in-Some-node_before.node.high) o.0 ab.before (subst (Accepts c.args.block.first c.args.block.bits c.args.change) ab.tree c.requires.accepts),
                  c.requires.noted,
                ),
              ),
            ),
          ),
        ),
      ),
    )

pub returns-in_err-low-clause-walks : goal.returns-in_err-low-clause-walks
returns-in_err-low-clause-walks g t c = err_low (λ t. changed c.args.block.first c.args.block.bits c.args.change t) c.args.block.first c.args.h c.args.store.now.table c.args.steps.now (omega (arith, c.requires.block)) (change_joins c.args.block.first c.args.block.bits c.args.change) c.live-held.ensures.shared c.requires.valid c.requires.noted c.in-Some-node_before.node.level c.in-Some-node_before.node.low c.in-Some-node_before.node.high (subst (λ t. IsNodeBefore t c.args.h c.args.block.first c.in-Some-node_before.node.level c.in-Some-node_before.node.low c.in-Some-node_before.node.high) c.table.ensures c.in-Some-node_before.ensures.node) c.node_before.new.steps c.node_before.ensures.cost c.change_parts.new.store.table c.change_parts.new.steps c.change_parts.result c.change_parts.ensures.walks _ (rw c.in_err-low.was refl) (search rules)

pub change_parts-requires-2 : goal.change_parts-requires-2
change_parts-requires-2 g t c κs within =
    let ab = (subst (λ t. IsNodeBefore t c.args.h c.args.block.first c.in-Some-node_before.node.level c.in-Some-node_before.node.low c.in-Some-node_before.node.high) c.table.ensures c.in-Some-node_before.ensures.node) in
    let o = ordered (λ t. changed c.args.block.first c.args.block.bits c.args.change t) c.args.block.first c.args.h c.args.store.now.table c.args.steps.now (omega (arith, c.requires.block)) (change_joins c.args.block.first c.args.block.bits c.args.change) c.live-held.ensures.shared c.requires.valid c.requires.noted c.in-Some-node_before.node.level c.in-Some-node_before.node.low c.in-Some-node_before.node.high (subst (λ t. IsNodeBefore t c.args.h c.args.block.first c.in-Some-node_before.node.level c.in-Some-node_before.node.low c.in-Some-node_before.node.high) c.table.ensures c.in-Some-node_before.ensures.node) c.node_before.new.steps c.node_before.ensures.cost in
    let k = c.change_parts.ensures.walks.made.grows.keeps.trees c.in-Some-node_before.node.high ab.high_valid in (
      subst (λ (n : ℕ). depth (tree_of c.change_parts.new.store.table c.in-Some-node_before.node.high) < n) c.decreases (less_high (λ t. changed c.args.block.first c.args.block.bits c.args.change t) c.args.block.first c.args.h c.args.store.now.table c.args.steps.now (omega (arith, c.requires.block)) (change_joins c.args.block.first c.args.block.bits c.args.change) c.live-held.ensures.shared c.requires.valid c.requires.noted c.in-Some-node_before.node.level c.in-Some-node_before.node.low c.in-Some-node_before.node.high (subst (λ t. IsNodeBefore t c.args.h c.args.block.first c.in-Some-node_before.node.level c.in-Some-node_before.node.low c.in-Some-node_before.node.high) c.table.ensures c.in-Some-node_before.ensures.node) c.node_before.new.steps c.node_before.ensures.cost c.change_parts.new.store.table c.change_parts.new.steps c.change_parts.result c.change_parts.ensures.walks),
      (
        within,
        (
          c.requires.width,
          (
            c.requires.block,
            (
              k.0,
              (
                c.requires.fits,
                (
                  subst (Accepts c.args.block.first c.args.block.bits c.args.change) (sym k.1) (accepts-high c.args.block.first c.args.block.bits c.args.change c.in-Some-node_before.node.level (tree_of c.args.store.now.table c.in-Some-node_before.node.low) (tree_of c.args.store.now.table c.in-Some-node_before.node.high) o.1 ab.before (subst (Accepts c.args.block.first c.args.block.bits c.args.change) ab.tree c.requires.accepts)),
                  c.change_parts.ensures.walks.noted,
                ),
              ),
            ),
          ),
        ),
      ),
    )

pub returns-in_err-high-clause-walks : goal.returns-in_err-high-clause-walks
returns-in_err-high-clause-walks g t c = err_high (λ t. changed c.args.block.first c.args.block.bits c.args.change t) c.args.block.first c.args.h c.args.store.now.table c.args.steps.now (omega (arith, c.requires.block)) (change_joins c.args.block.first c.args.block.bits c.args.change) c.live-held.ensures.shared c.requires.valid c.requires.noted c.in-Some-node_before.node.level c.in-Some-node_before.node.low c.in-Some-node_before.node.high (subst (λ t. IsNodeBefore t c.args.h c.args.block.first c.in-Some-node_before.node.level c.in-Some-node_before.node.low c.in-Some-node_before.node.high) c.table.ensures c.in-Some-node_before.ensures.node) c.node_before.new.steps c.node_before.ensures.cost c.change_parts.new.store.table c.change_parts.new.steps c.change_parts.result c.change_parts.ensures.walks c.change_parts-2.new.store.table c.change_parts-2.new.steps c.change_parts-2.result c.in_ok-low.low c.in_ok-low.was c.change_parts-2.ensures.walks _ (rw c.in_err-high.was refl) (search rules)

pub make-requires-clause-below_low : goal.make-requires-clause-below_low
make-requires-clause-below_low g t c = (can_make (λ t. changed c.args.block.first c.args.block.bits c.args.change t) c.args.block.first c.args.h c.args.store.now.table c.args.steps.now (omega (arith, c.requires.block)) (change_joins c.args.block.first c.args.block.bits c.args.change) c.live-held.ensures.shared c.requires.valid c.requires.noted c.in-Some-node_before.node.level c.in-Some-node_before.node.low c.in-Some-node_before.node.high (subst (λ t. IsNodeBefore t c.args.h c.args.block.first c.in-Some-node_before.node.level c.in-Some-node_before.node.low c.in-Some-node_before.node.high) c.table.ensures c.in-Some-node_before.ensures.node) c.node_before.new.steps c.node_before.ensures.cost c.change_parts.new.store.table c.change_parts.new.steps c.change_parts.result c.change_parts.ensures.walks c.change_parts-2.new.store.table c.change_parts-2.new.steps c.change_parts-2.result c.in_ok-low.low c.in_ok-low.was c.change_parts-2.ensures.walks c.in_ok-high.high c.in_ok-high.was).2

pub make-requires-clause-below_high : goal.make-requires-clause-below_high
make-requires-clause-below_high g t c = (can_make (λ t. changed c.args.block.first c.args.block.bits c.args.change t) c.args.block.first c.args.h c.args.store.now.table c.args.steps.now (omega (arith, c.requires.block)) (change_joins c.args.block.first c.args.block.bits c.args.change) c.live-held.ensures.shared c.requires.valid c.requires.noted c.in-Some-node_before.node.level c.in-Some-node_before.node.low c.in-Some-node_before.node.high (subst (λ t. IsNodeBefore t c.args.h c.args.block.first c.in-Some-node_before.node.level c.in-Some-node_before.node.low c.in-Some-node_before.node.high) c.table.ensures c.in-Some-node_before.ensures.node) c.node_before.new.steps c.node_before.ensures.cost c.change_parts.new.store.table c.change_parts.new.steps c.change_parts.result c.change_parts.ensures.walks c.change_parts-2.new.store.table c.change_parts-2.new.steps c.change_parts-2.result c.in_ok-low.low c.in_ok-low.was c.change_parts-2.ensures.walks c.in_ok-high.high c.in_ok-high.was).3

pub returns-in_err-made-clause-walks : goal.returns-in_err-made-clause-walks
returns-in_err-made-clause-walks g t c = err_make (λ t. changed c.args.block.first c.args.block.bits c.args.change t) c.args.block.first c.args.h c.args.store.now.table c.args.steps.now (omega (arith, c.requires.block)) (change_joins c.args.block.first c.args.block.bits c.args.change) c.live-held.ensures.shared c.requires.valid c.requires.noted c.in-Some-node_before.node.level c.in-Some-node_before.node.low c.in-Some-node_before.node.high (subst (λ t. IsNodeBefore t c.args.h c.args.block.first c.in-Some-node_before.node.level c.in-Some-node_before.node.low c.in-Some-node_before.node.high) c.table.ensures c.in-Some-node_before.ensures.node) c.node_before.new.steps c.node_before.ensures.cost c.change_parts.new.store.table c.change_parts.new.steps c.change_parts.result c.change_parts.ensures.walks c.change_parts-2.new.store.table c.change_parts-2.new.steps c.change_parts-2.result c.in_ok-low.low c.in_ok-low.was c.change_parts-2.ensures.walks c.in_ok-high.high c.in_ok-high.was c.in_default.ensures c.make.new.self.table c.make.ensures.notes c.make.result c.make.ensures.made _ (rw c.in_err-made.was refl) (search rules)

pub take_note-requires : goal.take_note-requires
take_note-requires g t c = can_note (λ t. changed c.args.block.first c.args.block.bits c.args.change t) c.args.block.first c.args.h c.args.store.now.table c.args.steps.now (omega (arith, c.requires.block)) (change_joins c.args.block.first c.args.block.bits c.args.change) c.live-held.ensures.shared c.requires.valid c.requires.noted c.in-Some-node_before.node.level c.in-Some-node_before.node.low c.in-Some-node_before.node.high (subst (λ t. IsNodeBefore t c.args.h c.args.block.first c.in-Some-node_before.node.level c.in-Some-node_before.node.low c.in-Some-node_before.node.high) c.table.ensures c.in-Some-node_before.ensures.node) c.node_before.new.steps c.node_before.ensures.cost c.change_parts.new.store.table c.change_parts.new.steps c.change_parts.result c.change_parts.ensures.walks c.change_parts-2.new.store.table c.change_parts-2.new.steps c.change_parts-2.result c.in_ok-low.low c.in_ok-low.was c.change_parts-2.ensures.walks c.in_ok-high.high c.in_ok-high.was c.in_default.ensures c.make.new.self.table c.make.ensures.notes c.make.result c.make.ensures.made

pub returns-clause-walks : goal.returns-clause-walks
returns-clause-walks g t c = done (λ t. changed c.args.block.first c.args.block.bits c.args.change t) c.args.block.first c.args.h c.args.store.now.table c.args.steps.now (omega (arith, c.requires.block)) (change_joins c.args.block.first c.args.block.bits c.args.change) c.live-held.ensures.shared c.requires.valid c.requires.noted c.in-Some-node_before.node.level c.in-Some-node_before.node.low c.in-Some-node_before.node.high (subst (λ t. IsNodeBefore t c.args.h c.args.block.first c.in-Some-node_before.node.level c.in-Some-node_before.node.low c.in-Some-node_before.node.high) c.table.ensures c.in-Some-node_before.ensures.node) c.node_before.new.steps c.node_before.ensures.cost c.change_parts.new.store.table c.change_parts.new.steps c.change_parts.result c.change_parts.ensures.walks c.change_parts-2.new.store.table c.change_parts-2.new.steps c.change_parts-2.result c.in_ok-low.low c.in_ok-low.was c.change_parts-2.ensures.walks c.in_ok-high.high c.in_ok-high.was c.in_default.ensures c.make.new.self.table c.make.ensures.notes c.make.result c.make.ensures.made c.in_ok-made.made c.in_ok-made.was c.take_note.new.self.table c.take_note.ensures.grows c.take_note.ensures.noted c.take_note.ensures.within
