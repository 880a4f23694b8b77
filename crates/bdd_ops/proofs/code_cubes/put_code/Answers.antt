use Rattle.std.proofs.Common.{◌-◌, ◌+◌, ◌/◌, ◌%◌, ◌≤◌, refl, ap, sym, ◌∙◌, arith, subst, rules}
use Rattle.std.specs.Prelude.{nat_eq}
use Rattle.node_tree.specs.Tree.{top}
use Rattle.node_table.specs.Table.{tree_of}
use Rattle.bdd_ops.specs.Cube.{cube_over}
use Rattle.bdd_ops.specs.Codes.{literal_at, code_literals, block_code_literals}
use Rattle.bdd_ops.proofs.Growing.{grows_none}
use Rattle.bdd_ops.proofs.Stages.{made_ok}
use Rattle.bdd_ops.proofs.CodeCubes.{bit_over, bit_ok, bit_err, bit_below}
use Rattle.bdd_ops.proofs.code_cubes.put_code.Goals as goal

pub loop-bits-init : goal.loop-bits-init
loop-bits-init c = record {
  few = omega arith;
  made = made_ok c.args.table.now c.args.table.now (tree_of c.args.table.now c.args.rest) c.args.rest c.requires.rest refl (grows_none c.args.table.now _ c.live-held.ensures.shared);
  over = refl;
  below = c.requires.below;
}

pub returns-in_err-made : goal.returns-in_err-made
returns-in_err-made c =
    let before = c.loop-bits.invariant in
    let first = c.args.part.block.first in
    let last = literal_at (first + (c.loop-bits.bits - 1)) (nat_eq (c.loop-bits.code % 2) 1) in
    let over = bit_over first c.loop-bits.bits c.loop-bits.code (tree_of c.loop-bits.table c.loop-bits.made) (omega (arith, c.loop-bits-test.true)) in
    bit_err last c.args.table.now c.loop-bits.table c.put_literal.new.table c.loop-bits.made before.made (cube_over (block_code_literals c.args.part) (tree_of c.args.table.now c.args.rest))
    (code_literals first (c.loop-bits.bits - 1) (c.loop-bits.code / 2)) c.put_literal.result c.from_residual.result (over ∙ before.over) c.live-held.ensures.shared
    (rw c.in_err-made.was refl) (search rules) c.put_literal.ensures

pub loop-bits-preserved : goal.loop-bits-preserved
loop-bits-preserved c =
    let before = c.loop-bits.invariant in
    let first = c.args.part.block.first in
    let last = literal_at (first + (c.loop-bits.bits - 1)) (nat_eq (c.loop-bits.code % 2) 1) in
    let some : 1 ≤ c.loop-bits.bits = omega (arith, c.loop-bits-test.true) in
    let below = before.below some in
    let over = bit_over first c.loop-bits.bits c.loop-bits.code (tree_of c.loop-bits.table c.loop-bits.made) some in
    let few = before.few in
    record {
      few = omega (arith, few);
      made = bit_ok last c.args.table.now c.loop-bits.table c.put_literal.new.table c.loop-bits.made before.made c.in_ok-made.made c.in_ok-made.ensures;
      over = ap (cube_over (code_literals first (c.loop-bits.bits - 1) (c.loop-bits.code / 2))) c.in_ok-made.ensures.is ∙ over ∙ before.over;
      below = λ more.
          subst (λ t. first + (c.loop-bits.bits - 1) ≤ top t) (sym c.in_ok-made.ensures.is)
          (bit_below last (tree_of c.loop-bits.table c.loop-bits.made) (omega (arith, some, few, c.requires.levels)) (omega (arith, some, below))
          (before.made.grows.shared.ordered c.loop-bits.made before.made.valid));
    }
