use Rattle.std.proofs.Common.{◌≡◌, ℕ, ◌<◌, List, length, drop, refl, ap, sym, subst, arith, ◌∙◌}
use Rattle.std.specs.Prelude.{Option, Some}
use Rattle.node_tree.specs.Tree.{join, top}
use Rattle.node_table.specs.declared.node.Node.{Node}
use Rattle.node_table.specs.declared.arrays.Slot.{Slot}
use Rattle.node_table.specs.Table.{Table, note_of, IsTable, IsShared, tree_of, IsValid, live_of, need}
use Rattle.node_table.specs.Arrays.{notes_of, node_of, node_in, table_of, IsLinked}
use Rattle.std.proofs.lemmas.List.{length-map}
use Rattle.node_table.proofs.Keeping.{came_back}
use Rattle.node_table.proofs.Sharing.{shared}
use Rattle.node_table.proofs.Making.{MakesNode, makes_same, makes_found, is_full}
use Rattle.node_table.proofs.Rounds.{notes_alike}
use Rattle.node_table.proofs.Standing.{is_table, child, makes_held_node, counted, counted_more, seen, forth, back}
use Rattle.node_table.proofs.table.NodeTable.make_within.Goals as goal

same : (c : goal.Then-low-high) → MakesNode c.args.self.now c.args.self.now (join c.args.level (tree_of c.args.self.now c.args.low) (tree_of c.args.self.now c.args.high)) c.args.low
same c =
    makes_same c.args.self.now (subst IsTable c.self.view_is (is_table c.self.inside.room c.self.inside.slots.items c.self.inside.heads.items (notes_of c.self.inside.marks.items c.self.inside.found.items c.self.inside.round) c.self.inside.free c.self.invariant.0.linked))
    c.args.level c.args.low c.args.high c.requires.low (sym c.low.view_is ∙ c.if-low-high.true ∙ c.high.view_is)

pub returns-then-low-high-clause-tree : goal.returns-then-low-high-clause-tree
returns-then-low-high-clause-tree c = (same c).made

pub returns-then-low-high-clause-held : goal.returns-then-low-high-clause-held
returns-then-low-high-clause-held c = (same c).held

pub returns-then-low-high-clause-live : goal.returns-then-low-high-clause-live
returns-then-low-high-clause-live c = (same c).live

pub returns-then-low-high-clause-full : goal.returns-then-low-high-clause-full
returns-then-low-high-clause-full c = (λ e. cc, λ full. absurd (omega (arith, (same c).small, full)))

pub returns-then-low-high-clause-shared : goal.returns-then-low-high-clause-shared
returns-then-low-high-clause-shared c = (same c).shared

-- a node that its bucket has
found : (c : goal.In-Some) → MakesNode c.args.self.now c.args.self.now (join c.args.level (tree_of c.args.self.now c.args.low) (tree_of c.args.self.now c.args.high)) c.in-Some.number
found c =
    let inside : Table = table_of c.self.inside.room c.self.inside.slots.items (notes_of c.self.inside.marks.items c.self.inside.found.items c.self.inside.round) in
    let node : Node = record { level = c.args.level; low = c.low.inside.number; high = c.high.inside.number } in
    let there : node_in c.self.inside.slots.items c.in-Some.number ≡ Some node = subst (λ (s : List Slot). node_in s c.in-Some.number ≡ Some node) c.deref.ensures.value c.in-Some.ensures.some in
    forth (λ t x y. MakesNode t t (join c.args.level (tree_of t x) (tree_of t y)) c.in-Some.number) inside c.args.self.now c.low.inside.number c.args.low c.high.inside.number c.args.high c.self.view_is c.low.view_is c.high.view_is
    (makes_found inside (is_table c.self.inside.room c.self.inside.slots.items c.self.inside.heads.items (notes_of c.self.inside.marks.items c.self.inside.found.items c.self.inside.round) c.self.inside.free c.self.invariant.0.linked) node
    (back IsValid inside c.args.self.now node.low c.args.low c.self.view_is c.low.view_is c.requires.low)
    (back IsValid inside c.args.self.now node.high c.args.high c.self.view_is c.high.view_is c.requires.high)
    c.if-low-high.false c.in-Some.number
    (ap (λ (f : ℕ → Option Node). f c.in-Some.number) (seen c.self.inside.room c.self.inside.slots.items (notes_of c.self.inside.marks.items c.self.inside.found.items c.self.inside.round)) ∙ there))

pub returns-in-Some-clause-valid : goal.returns-in-Some-clause-valid
returns-in-Some-clause-valid c = (found c).valid

pub returns-in-Some-clause-tree : goal.returns-in-Some-clause-tree
returns-in-Some-clause-tree c = (found c).made

pub returns-in-Some-clause-held : goal.returns-in-Some-clause-held
returns-in-Some-clause-held c = (found c).held

pub returns-in-Some-clause-live : goal.returns-in-Some-clause-live
returns-in-Some-clause-live c = (found c).live

pub returns-in-Some-clause-full : goal.returns-in-Some-clause-full
returns-in-Some-clause-full c = (λ e. cc, λ full. absurd (omega (arith, (found c).small, full)))

pub returns-in-Some-clause-shared : goal.returns-in-Some-clause-shared
returns-in-Some-clause-shared c = (found c).shared

pub hold-requires-clause-low : goal.hold-requires-clause-low
hold-requires-clause-low c =
    let inside : Table = table_of c.self.inside.room c.self.inside.slots.items (notes_of c.self.inside.marks.items c.self.inside.found.items c.self.inside.round) in
    child c.self.inside.room c.self.inside.slots.items c.self.inside.heads.items (notes_of c.self.inside.marks.items c.self.inside.found.items c.self.inside.round) c.self.inside.free c.self.invariant.0.linked c.args.level c.low.inside.number
    (back IsValid inside c.args.self.now c.low.inside.number c.args.low c.self.view_is c.low.view_is c.requires.low)
    (back (λ t h. c.args.level < top (tree_of t h)) inside c.args.self.now c.low.inside.number c.args.low c.self.view_is c.low.view_is c.requires.below_low)

pub hold-requires-clause-high : goal.hold-requires-clause-high
hold-requires-clause-high c =
    let inside : Table = table_of c.self.inside.room c.self.inside.slots.items (notes_of c.self.inside.marks.items c.self.inside.found.items c.self.inside.round) in
    child c.self.inside.room c.self.inside.slots.items c.self.inside.heads.items (notes_of c.self.inside.marks.items c.self.inside.found.items c.self.inside.round) c.self.inside.free c.self.invariant.0.linked c.args.level c.high.inside.number
    (back IsValid inside c.args.self.now c.high.inside.number c.args.high c.self.view_is c.high.view_is c.requires.high)
    (back (λ t h. c.args.level < top (tree_of t h)) inside c.args.self.now c.high.inside.number c.args.high c.self.view_is c.high.view_is c.requires.below_high)

pub returns-in_default-hold-clause-full : goal.returns-in_default-hold-clause-full
returns-in_default-hold-clause-full c =
    let inside : Table = table_of c.self.inside.room c.self.inside.slots.items (notes_of c.self.inside.marks.items c.self.inside.found.items c.self.inside.round) in
    let node : Node = record { level = c.args.level; low = c.low.inside.number; high = c.high.inside.number } in
    let linked = c.self.invariant.0.linked in
    let e = seen c.self.inside.room c.self.inside.slots.items (notes_of c.self.inside.marks.items c.self.inside.found.items c.self.inside.round) in
    let absent = subst (λ (s : List Slot). (h : ℕ) → node_in s h ≡ Some node → ⊥) c.deref.ensures.value c.in_default.ensures.none in
    let none = c.in_default-hold.ensures.none in
    let full =
    forth (λ t x y. t.room < need t (join c.args.level (tree_of t x) (tree_of t y))) inside c.args.self.now c.low.inside.number c.args.low c.high.inside.number c.args.high c.self.view_is c.low.view_is c.high.view_is
    (is_full inside (is_table c.self.inside.room c.self.inside.slots.items c.self.inside.heads.items (notes_of c.self.inside.marks.items c.self.inside.found.items c.self.inside.round) c.self.inside.free linked) node
    (back IsValid inside c.args.self.now node.low c.args.low c.self.view_is c.low.view_is c.requires.low)
    (back IsValid inside c.args.self.now node.high c.args.high c.self.view_is c.high.view_is c.requires.high)
    c.if-low-high.false (λ h q. absent h (ap (λ (f : ℕ → Option Node). f h) (sym e) ∙ q))
    (omega (arith, none.0, length-map c.self.inside.slots.items node_of))
    (λ h a b q. (linked.free.start.least h (omega (arith, a)) (omega (arith, b, length-map c.self.inside.slots.items node_of)) (ap (λ (f : ℕ → Option Node). f h) (sym e) ∙ q)).0 none.1)) in
    (λ _. full, λ _. refl)

pub returns-in_default-hold-clause-shared : goal.returns-in_default-hold-clause-shared
returns-in_default-hold-clause-shared c = shared _ (is_table c.self.inside.room c.hold.new.slots.items c.hold.new.heads (notes_of c.hold.new.marks.items c.self.inside.found.items c.self.inside.round) c.hold.new.free c.hold.ensures.linked)

pub overflow_add-self : goal.overflow_add-self
overflow_add-self c =
    let t : Table = table_of c.self.inside.room c.self.inside.slots.items (notes_of c.self.inside.marks.items c.self.inside.found.items c.self.inside.round) in
    let s : IsShared t = shared t (is_table c.self.inside.room c.self.inside.slots.items c.self.inside.heads.items (notes_of c.self.inside.marks.items c.self.inside.found.items c.self.inside.round) c.self.inside.free c.self.invariant.0.linked) in
    let n : c.self.inside.live ≡ live_of t = counted c.self.inside.room c.self.inside.slots.items (notes_of c.self.inside.marks.items c.self.inside.found.items c.self.inside.round) c.self.inside.live c.self.invariant.0.count in
    omega (arith, s.bound, n, c.self.invariant.0.linked.bound)

pub invariant_of-self-2 : goal.invariant_of-self-2
invariant_of-self-2 c =
    let kept = c.self.invariant.0 in
    let put = c.in-Some-hold.ensures.some in
    let long : c.self.inside.heads.len ≡ length c.hold.new.heads = omega arith in
    let linked = subst (λ (hs : List ℕ). IsLinked c.self.inside.room c.hold.new.slots.items hs c.hold.new.free) (sym (came_back c.self.inside.heads.len c.hold.new.heads (drop (length c.hold.new.heads) c.self.inside.heads.items) long)) c.hold.ensures.linked in (
      record {
        linked = linked;
        marked = c.hold.ensures.marked;
        rounds = λ h. (let r = kept.rounds h in omega (arith, r, c.hold.ensures.marks h));
        started = kept.started;
        count = counted_more c.self.inside.slots.items c.hold.new.slots.items _ c.in-Some-hold.number c.self.inside.live put c.hold.ensures.longer kept.count;
      },
      omega (arith, c.self.invariant.1, c.hold.ensures.slot_room),
      omega (arith, c.self.invariant.2, c.hold.ensures.mark_room),
      c.self.invariant.3,
    )

-- a node that was put in
made : (c : goal.After-self-2-1) → MakesNode c.args.self.now (table_of c.self.inside.room c.hold.new.slots.items (notes_of c.hold.new.marks.items c.self.inside.found.items c.self.inside.round)) (join c.args.level (tree_of c.args.self.now c.args.low) (tree_of c.args.self.now c.args.high)) c.in-Some-hold.number
made c =
    let inside : Table = table_of c.self.inside.room c.self.inside.slots.items (notes_of c.self.inside.marks.items c.self.inside.found.items c.self.inside.round) in
    let new : Table = table_of c.self.inside.room c.hold.new.slots.items (notes_of c.hold.new.marks.items c.self.inside.found.items c.self.inside.round) in
    let node : Node = record { level = c.args.level; low = c.low.inside.number; high = c.high.inside.number } in
    let absent = subst (λ (s : List Slot). (h : ℕ) → node_in s h ≡ Some node → ⊥) c.deref.ensures.value c.in_default.ensures.none in
    forth (λ t x y. MakesNode t new (join c.args.level (tree_of t x) (tree_of t y)) c.in-Some-hold.number) inside c.args.self.now c.low.inside.number c.args.low c.high.inside.number c.args.high c.self.view_is c.low.view_is c.high.view_is
    (makes_held_node c.self.inside.room c.self.inside.slots.items c.self.inside.heads.items (notes_of c.self.inside.marks.items c.self.inside.found.items c.self.inside.round) c.self.inside.free c.self.invariant.0.linked c.hold.new.slots.items c.hold.new.heads (notes_of c.hold.new.marks.items c.self.inside.found.items c.self.inside.round) c.hold.new.free c.in-Some-hold.number node
    c.in-Some-hold.ensures.some c.hold.ensures.linked c.if-low-high.false absent (omega (arith, c.ranges.level))
    (back IsValid inside c.args.self.now node.low c.args.low c.self.view_is c.low.view_is c.requires.low)
    (back IsValid inside c.args.self.now node.high c.args.high c.self.view_is c.high.view_is c.requires.high)
    (back (λ t h. c.args.level < top (tree_of t h)) inside c.args.self.now node.low c.args.low c.self.view_is c.low.view_is c.requires.below_low)
    (back (λ t h. c.args.level < top (tree_of t h)) inside c.args.self.now node.high c.args.high c.self.view_is c.high.view_is c.requires.below_high))

pub returns-clause-valid : goal.returns-clause-valid
returns-clause-valid c = (made c).valid

pub returns-clause-tree : goal.returns-clause-tree
returns-clause-tree c = (made c).made

pub returns-clause-kept : goal.returns-clause-kept
returns-clause-kept c = (made c).kept

pub returns-clause-held : goal.returns-clause-held
returns-clause-held c = (made c).held

pub returns-clause-live : goal.returns-clause-live
returns-clause-live c = (made c).live

pub returns-clause-full : goal.returns-clause-full
returns-clause-full c = (λ e. cc, λ full. absurd (omega (arith, (made c).small, full)))

pub returns-clause-shared : goal.returns-clause-shared
returns-clause-shared c = (made c).shared

pub returns-clause-notes : goal.returns-clause-notes
returns-clause-notes c = λ h.
    notes_alike c.self.inside.room c.self.inside.slots.items c.self.inside.marks.items c.self.inside.found.items c.self.inside.round c.self.invariant.0.started
    c.hold.new.slots.items c.hold.new.marks.items c.hold.ensures.marks h
    ∙ ap (λ (t : Table). note_of t h) c.self.view_is
