use Rattle.bdd_ops.specs.Applied.{depths}
use Rattle.bdd_ops.proofs.level.+level_parts.Given as goal

abbrev pub decreases-level_parts : goal.decreases-level_parts
decreases-level_parts g l = depths l.table.now l.h l.h
