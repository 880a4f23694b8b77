use Rattle.std.proofs.Common.{subst}
use Rattle.node_table.specs.Table.{IsShared}
use Rattle.node_table.specs.Arrays.{notes_of}
use Rattle.node_table.proofs.Sharing.{shared}
use Rattle.node_table.proofs.Standing.{is_table}
use Rattle.node_table.proofs.table.NodeTable.one.Goals as goal

pub returns-clause-tree : goal.returns-clause-tree
returns-clause-tree c = (subst IsShared c.self.view_is (shared _ (is_table c.self.inside.room c.self.inside.slots.items c.self.inside.heads.items (notes_of c.self.inside.marks.items c.self.inside.found.items c.self.inside.round) c.self.inside.free c.self.invariant.0.linked))).one.1
