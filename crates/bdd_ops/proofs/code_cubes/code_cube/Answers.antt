use Rattle.std.proofs.Common.{[], ap, ◌∙◌}
use Rattle.node_tree.specs.Tree.{value}
use Rattle.bdd_ops.specs.Cube.{cube_tree}
use Rattle.bdd_ops.specs.Codes.{code_list_literals}
use Rattle.bdd_ops.proofs.Tries.{none_valid, first_ok, again_ok, again_full}
use Rattle.bdd_ops.proofs.Cubes.{cube-value}
use Rattle.bdd_ops.proofs.code_cubes.code_cube.Goals as goal

pub returns-in-Ok-clause-made : goal.returns-in-Ok-clause-made
returns-in-Ok-clause-made g c = first_ok (cube_tree (code_list_literals c.args.codes.now)) [] c.args.roots.now c.args.store.now.table c.code_cube_inside.new.store.table c.in-Ok.made (none_valid
    c.args.store.now.table) c.requires.roots c.in-Ok.ensures.made

pub returns-in-Ok-clause-values : goal.returns-in-Ok-clause-values
returns-in-Ok-clause-values g c = λ bits. ap (λ x. value x bits) c.in-Ok.ensures.made.is ∙ cube-value (code_list_literals c.args.codes.now) bits

pub returns-in-Ok-code_cube_inside-clause-made : goal.returns-in-Ok-code_cube_inside-clause-made
returns-in-Ok-code_cube_inside-clause-made g c = again_ok (cube_tree (code_list_literals c.args.codes.now)) [] c.args.roots.now c.args.store.now.table c.code_cube_inside.new.store.table c.tidy.new.self.table
    c.code_cube_inside-2.new.store.table c.code_cube_inside.ensures.made.grows.keeps (none_valid c.args.store.now.table) c.requires.roots c.tidy.ensures.collected c.in-Ok-code_cube_inside.made
    c.in-Ok-code_cube_inside.ensures.made

pub returns-in-Ok-code_cube_inside-clause-values : goal.returns-in-Ok-code_cube_inside-clause-values
returns-in-Ok-code_cube_inside-clause-values g c = λ bits. ap (λ x. value x bits) c.in-Ok-code_cube_inside.ensures.made.is ∙ cube-value (code_list_literals c.args.codes.now) bits

pub returns-in-Err-clause-made : goal.returns-in-Err-clause-made
returns-in-Err-clause-made g c = again_full (cube_tree (code_list_literals c.args.codes.now)) [] c.args.roots.now c.args.store.now.table c.code_cube_inside.new.store.table c.tidy.new.self.table
    c.code_cube_inside-2.new.store.table c.code_cube_inside.ensures.made.grows.keeps (none_valid c.args.store.now.table) c.requires.roots c.tidy.ensures.collected _ c.in-Err.field-0 c.in-Err.ensures.made
