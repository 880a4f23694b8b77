use Rattle.std.proofs.Common.{List, sym, subst}
use Rattle.node_table.specs.declared.arrays.Slot.{Slot}
use Rattle.node_table.specs.Arrays.{notes_of, IsLinked}
use Rattle.node_table.proofs.Sharing.{shared}
use Rattle.node_table.proofs.Standing.{is_table, linked_empty}
use Rattle.node_table.proofs.Widening.{zeros}
use Rattle.node_table.proofs.table.NodeTable.open.Goals as goal

pub returns-clause-shared : goal.returns-clause-shared
returns-clause-shared c =
    let linked = subst (λ (s : List Slot). IsLinked c.args.nodes s c.in_ok-open_heads.field-0.items 0) (sym c.in_ok-slots.ensures.slots)
    (linked_empty c.args.nodes c.in_ok-open_heads.field-0.items c.requires.two c.requires.bound c.in_ok-open_heads.ensures.some (zeros _ c.in_ok-open_heads.field-0.items c.in_ok-open_heads.ensures.empty)) in
    shared _ (is_table c.args.nodes c.in_ok-slots.slots.items c.in_ok-open_heads.field-0.items (notes_of c.in_ok-slots.marks.items c.in_ok-with_capacity.field-0.items 1) 0 linked)
