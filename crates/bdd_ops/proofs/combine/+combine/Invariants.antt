use Rattle.std.proofs.Common.{◌+◌, ◌*◌}
use Rattle.bdd_ops.specs.Applied.{depths}
use Rattle.bdd_ops.proofs.combine.+combine.Given as goal

abbrev pub decreases-apply_parts : goal.decreases-apply_parts
decreases-apply_parts g l = 2 * depths l.table.now l.u l.v + 1

abbrev pub decreases-apply_nodes : goal.decreases-apply_nodes
decreases-apply_nodes g l = 2 * depths l.table.now l.u l.v
