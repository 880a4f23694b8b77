use Rattle.std.proofs.Common.{ℕ, ◌+◌, ◌*◌, ◌<◌, ◌≤◌, length, subst, arith}
use Rattle.node_tree.specs.Tree.{depth}
use Rattle.node_table.specs.Table.{tree_of}
use Rattle.code_reclaim.specs.Search.{unmarked}
use Rattle.code_reclaim.proofs.Searching.{Marks, same_valid, less_low, less_high}
use Rattle.code_reclaim.proofs.Counting.{mark_le, mark_less, paid, passed, paid_again}
use Rattle.code_reclaim.proofs.Walking.{all_passed, all_looked_at, all_clear_low, all_clear_high, all_struck, paid_step, paid_entry}
use Rattle.code_reclaim.proofs.search.+strike_below.Goals as goal

pub returns-then-not-mark-clause-struck : goal.returns-then-not-mark-clause-struck
returns-then-not-mark-clause-struck g t c =
    all_passed c.args.block.first c.args.block.bits c.args.from c.args.h c.args.table.now c.mark.new.self c.mark.result c.live-held.ensures.shared c.requires.valid
    (record { first_one = c.mark.ensures.first; marked = c.mark.ensures.marked; room = c.mark.ensures.room; nodes = c.mark.ensures.nodes }) c.args.candidates.now c.requires.clear c.if-not-mark.true

pub returns-then-not-mark-clause-cost : goal.returns-then-not-mark-clause-cost
returns-then-not-mark-clause-cost g t c =
    passed (length c.args.candidates.now * (2 * c.args.block.bits + 1)) c.args.steps.now (unmarked c.args.table.now) (unmarked c.mark.new.self)
    (mark_le c.args.h c.args.table.now c.mark.new.self c.mark.result
    (record { first_one = c.mark.ensures.first; marked = c.mark.ensures.marked; room = c.mark.ensures.room; nodes = c.mark.ensures.nodes }))

pub returns-in-None-clause-struck : goal.returns-in-None-clause-struck
returns-in-None-clause-struck g t c =
    all_looked_at c.args.block.first c.args.block.bits c.args.from c.args.h c.args.table.now c.mark.new.self c.mark.result c.live-held.ensures.shared c.requires.valid
    (record { first_one = c.mark.ensures.first; marked = c.mark.ensures.marked; room = c.mark.ensures.room; nodes = c.mark.ensures.nodes }) c.args.candidates.now c.requires.clear
    c.strike_entry.new.candidates c.strike_entry.ensures.struck

pub returns-in-None-clause-cost : goal.returns-in-None-clause-cost
returns-in-None-clause-cost g t c =
    let m : Marks c.args.h c.args.table.now c.mark.new.self c.mark.result =
    record { first_one = c.mark.ensures.first; marked = c.mark.ensures.marked; room = c.mark.ensures.room; nodes = c.mark.ensures.nodes } in
    paid (length c.args.candidates.now * (2 * c.args.block.bits + 1)) c.args.steps.now c.strike_entry.new.steps (unmarked c.args.table.now) (unmarked c.mark.new.self)
    (mark_less c.args.h c.args.table.now c.mark.new.self c.requires.valid (subst (Marks c.args.h c.args.table.now c.mark.new.self) c.if-not-mark.false m))
    (paid_entry (length c.args.candidates.now) c.args.block.bits c.args.steps.now c.children_above.new.steps c.strike_entry.new.steps c.requires.some c.children_above.ensures.cost c.strike_entry.ensures.cost)

pub strike_below-requires : goal.strike_below-requires
strike_below-requires g t c κs within =
    let m : Marks c.args.h c.args.table.now c.mark.new.self c.mark.result =
    record { first_one = c.mark.ensures.first; marked = c.mark.ensures.marked; room = c.mark.ensures.room; nodes = c.mark.ensures.nodes } in (
      subst (λ (n : ℕ). depth (tree_of c.mark.new.self c.in-Some.node.low) < n) c.decreases
          (less_low c.args.h c.args.table.now c.mark.new.self c.mark.result m c.args.block.first c.in-Some.node.low c.in-Some.node.high c.in-Some.ensures.children),
      (
        within,
        (
          c.in-Some.ensures.children.low_valid,
          (
            c.requires.width,
            (
              c.requires.block,
              (
                c.requires.some,
                (
                  c.requires.fits,
                  all_clear_low c.args.block.first c.args.block.bits c.args.from c.args.h c.args.table.now c.mark.new.self c.mark.result c.live-held.ensures.shared c.requires.valid m
                      c.args.candidates.now c.requires.clear c.in-Some.node.low c.in-Some.node.high (omega (arith, c.requires.block)) c.in-Some.ensures.children,
                ),
              ),
            ),
          ),
        ),
      ),
    )

pub strike_below-requires-in-Some : goal.strike_below-requires-in-Some
strike_below-requires-in-Some g t c κs within =
    let m : Marks c.args.h c.args.table.now c.mark.new.self c.mark.result =
    record { first_one = c.mark.ensures.first; marked = c.mark.ensures.marked; room = c.mark.ensures.room; nodes = c.mark.ensures.nodes } in (
      subst (λ (n : ℕ). depth (tree_of c.strike_below.new.table c.in-Some.node.high) < n) c.decreases
          (less_high c.args.h c.args.table.now c.mark.new.self c.mark.result m c.args.block.first c.in-Some.node.low c.in-Some.node.high c.in-Some.ensures.children
          c.strike_below.new.table c.strike_below.ensures.struck.nodes),
      (
        within,
        (
          same_valid c.mark.new.self c.strike_below.new.table c.strike_below.ensures.struck.nodes c.in-Some.node.high c.in-Some.ensures.children.high_valid,
          (
            c.requires.width,
            (
              c.requires.block,
              (
                omega (arith, c.requires.some, c.strike_below.ensures.struck.count),
                (
                  omega (arith, c.requires.fits, c.strike_below.ensures.struck.count),
                  all_clear_high c.args.block.first c.args.block.bits c.args.from c.args.h c.args.table.now c.mark.new.self c.mark.result c.live-held.ensures.shared c.requires.valid m
                      c.args.candidates.now c.requires.clear c.in-Some.node.low c.in-Some.node.high (omega (arith, c.requires.block)) c.in-Some.ensures.children
                      c.strike_below.new.table c.strike_below.new.candidates c.strike_below.ensures.struck,
                ),
              ),
            ),
          ),
        ),
      ),
    )

pub returns-in-Some-clause-struck : goal.returns-in-Some-clause-struck
returns-in-Some-clause-struck g t c =
    let m : Marks c.args.h c.args.table.now c.mark.new.self c.mark.result =
    record { first_one = c.mark.ensures.first; marked = c.mark.ensures.marked; room = c.mark.ensures.room; nodes = c.mark.ensures.nodes } in
    all_struck c.args.block.first c.args.block.bits c.args.from c.args.h c.args.table.now c.mark.new.self c.mark.result c.live-held.ensures.shared c.requires.valid m
    c.args.candidates.now c.requires.clear c.in-Some.node.low c.in-Some.node.high (omega (arith, c.requires.block)) c.in-Some.ensures.children
    c.strike_below.new.table c.strike_below.new.candidates c.strike_below.ensures.struck c.strike_below-in-Some.new.table c.strike_below-in-Some.new.candidates c.strike_below-in-Some.ensures.struck

pub returns-in-Some-clause-cost : goal.returns-in-Some-clause-cost
returns-in-Some-clause-cost g t c =
    let m : Marks c.args.h c.args.table.now c.mark.new.self c.mark.result =
    record { first_one = c.mark.ensures.first; marked = c.mark.ensures.marked; room = c.mark.ensures.room; nodes = c.mark.ensures.nodes } in
    paid_again (length c.args.candidates.now * (2 * c.args.block.bits + 1)) c.args.steps.now c.children_above.new.steps c.strike_below.new.steps c.strike_below-in-Some.new.steps
    (unmarked c.args.table.now) (unmarked c.mark.new.self) (unmarked c.strike_below.new.table) (unmarked c.strike_below-in-Some.new.table)
    (mark_less c.args.h c.args.table.now c.mark.new.self c.requires.valid (subst (Marks c.args.h c.args.table.now c.mark.new.self) c.if-not-mark.false m))
    (paid_step (length c.args.candidates.now) c.args.block.bits c.args.steps.now c.children_above.new.steps c.requires.some c.children_above.ensures.cost)
    c.strike_below.ensures.cost
    (subst (λ (n : ℕ). c.strike_below-in-Some.new.steps + n * (2 * c.args.block.bits + 1) * unmarked c.strike_below-in-Some.new.table ≤ c.strike_below.new.steps + n * (2 * c.args.block.bits + 1) * unmarked c.strike_below.new.table)
    c.strike_below.ensures.struck.count c.strike_below-in-Some.ensures.cost)
