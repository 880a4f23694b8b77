use Rattle.std.proofs.Common.{◌≡◌, subst}
use Rattle.node_table.specs.Table.{IsShared, live_of}
use Rattle.node_table.specs.Arrays.{notes_of}
use Rattle.node_table.proofs.Sharing.{shared}
use Rattle.node_table.proofs.Standing.{is_table, counted}
use Rattle.node_table.proofs.table.NodeTable.live.Goals as goal

pub returns-clause-live : goal.returns-clause-live
returns-clause-live c = subst (λ t. c.self.inside.live ≡ live_of t) c.self.view_is (counted c.self.inside.room c.self.inside.slots.items (notes_of c.self.inside.marks.items c.self.inside.found.items c.self.inside.round) c.self.inside.live c.self.invariant.0.count)

pub returns-clause-shared : goal.returns-clause-shared
returns-clause-shared c = subst IsShared c.self.view_is (shared _ (is_table c.self.inside.room c.self.inside.slots.items c.self.inside.heads.items (notes_of c.self.inside.marks.items c.self.inside.found.items c.self.inside.round) c.self.inside.free c.self.invariant.0.linked))
