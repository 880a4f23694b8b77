use Rattle.std.proofs.Common.{◌-◌, ◌≤◌, length, refl, sym, ap, ◌∙◌, arith, rules}
use Rattle.std.proofs.lemmas.List.{drop_all}
use Rattle.std.proofs.lemmas.List.Elements.{All-get_or}
use Rattle.bdd_ops.specs.Cube.{cube_tree}
use Rattle.bdd_ops.specs.Codes.{code_list_literals, HasLevels}
use Rattle.bdd_ops.proofs.Growing.{grows_none}
use Rattle.bdd_ops.proofs.Stages.{made_ok}
use Rattle.bdd_ops.proofs.CodeCubes.{code_below, code_more, code_err}
use Rattle.bdd_ops.proofs.code_cubes.put_codes.Goals as goal

pub loop-left-init : goal.loop-left-init
loop-left-init c =
    let none = ap (λ cs. cube_tree (code_list_literals cs)) (drop_all (length c.args.codes.now) c.args.codes.now (omega arith)) in
    record {
      few = omega arith;
      made = made_ok c.args.table.now c.args.table.now _ c.one-made.result c.one-made.ensures.valid (c.one-made.ensures.tree ∙ sym none) (grows_none c.args.table.now _ c.live-held.ensures.shared);
    }

pub put_code-requires-clause-below : goal.put_code-requires-clause-below
put_code-requires-clause-below c = λ bits.
    let before = c.loop-left.invariant in
    let few = before.few in
    let some : 1 ≤ c.loop-left.left = omega (arith, c.loop-left-test.true) in
    let levels = All-get_or HasLevels c.args.codes.now (c.loop-left.left - 1) _ (omega (arith, some, few)) c.requires.levels in
    code_below c.args.codes.now c.loop-left.left _ some few _ before.made.is levels c.requires.ascending bits

pub returns-in_err-made : goal.returns-in_err-made
returns-in_err-made c =
    let before = c.loop-left.invariant in
    code_err c.args.codes.now c.loop-left.left _ (omega (arith, c.loop-left-test.true)) before.few c.args.table.now c.loop-left.table c.put_code.new.table c.loop-left.made c.put_code.result
    before.made c.put_code.ensures c.from_residual.result c.live-held.ensures.shared (rw c.in_err-made.was refl) (search rules)

pub loop-left-preserved : goal.loop-left-preserved
loop-left-preserved c =
    let before = c.loop-left.invariant in
    let few = before.few in
    record {
      few = omega (arith, few);
      made = code_more c.args.codes.now c.loop-left.left _ (omega (arith, c.loop-left-test.true)) few c.args.table.now c.loop-left.table c.put_code.new.table c.loop-left.made _ before.made
          c.in_ok-made.ensures;
    }
