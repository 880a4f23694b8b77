use Rattle.std.proofs.Common.{◌∙◌}
use Rattle.bdd_ops.specs.Cube.{cube_tree}
use Rattle.bdd_ops.proofs.Growing.{grows_none}
use Rattle.bdd_ops.proofs.Stages.{made_ok}
use Rattle.bdd_ops.proofs.Cubes.{no_literals, cube-again}
use Rattle.bdd_ops.proofs.literals.+cube_parts.Goals as goal

pub returns-in-empty : goal.returns-in-empty
returns-in-empty t c =
    made_ok c.args.table.now c.args.table.now (cube_tree c.args.literals.now) c.one.result c.one.ensures.valid (c.one.ensures.tree ∙ no_literals c.args.literals.now c.in-empty.len_below)
    (grows_none c.args.table.now (cube_tree c.args.literals.now) c.live-held.ensures.shared)

pub returns-in_ok-rest-in-len1-up : goal.returns-in_ok-rest-in-len1-up
returns-in_ok-rest-in-len1-up t c =
    cube-again c.args.literals.now _ c.args.table.now c.cube_parts.new.table c.put_literal.new.table c.in_ok-rest-in-len1-up.rest c.put_literal.result c.in-len1-up.len_at_least
    c.in_ok-rest-in-len1-up.ensures c.put_literal.ensures
