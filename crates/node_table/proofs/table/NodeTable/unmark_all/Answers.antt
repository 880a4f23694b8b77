use Rattle.std.proofs.Common.{◌≡◌, ℕ, List, length, drop, arith, subst, sym}
use Rattle.std.specs.Prelude.{None}
use Rattle.node_table.specs.Table.{note_of}
use Rattle.node_table.specs.Arrays.{notes_of, table_of}
use Rattle.node_table.proofs.Keeping.{came_back}
use Rattle.node_table.proofs.Rounds.{none_noted}
use Rattle.node_table.proofs.table.NodeTable.unmark_all.Goals as goal

pub returns-clause-none : goal.returns-clause-none
returns-clause-none c =
    let marks = c.new_round-self-inside.new.marks in
    let long : c.self.inside.marks.len ≡ length marks = omega arith in
    subst (λ (ms : List ℕ). (h : ℕ) → note_of (table_of c.self.inside.room c.self.inside.slots.items (notes_of ms c.self.inside.found.items c.new_round-self-inside.result)) h ≡ None) (sym (came_back c.self.inside.marks.len marks (drop (length marks) c.self.inside.marks.items) long))
    (none_noted c.self.inside.room c.self.inside.slots.items marks c.self.inside.found.items c.new_round-self-inside.result c.new_round-self-inside.ensures.started c.new_round-self-inside.ensures.none)
