-- What the arrays stand for is a table.
use Rattle.std.proofs.Common.{◌≡◌, ◌≢◌, ℕ, zero, suc, ◌+◌, ◌<◌, ◌≤◌, List, [], ◌∷◌, length, refl, ap, sym, ◌∙◌, arith, subst, ⊎_elim}
use Rattle.std.specs.Prelude.{true, cond, ◌==◌, Option, Some, slice_index_or}
use Rattle.std.proofs.Math.Path.{fun_ext}
use Rattle.std.proofs.lemmas.Bool.{cases_lt}
use Rattle.std.proofs.Math.ListN.{get_or-map}
use Rattle.std.proofs.lemmas.List.{length-map, get_or_past}
use Rattle.node_tree.specs.Tree.{Branch, join, top}
use Rattle.node_table.specs.declared.node.Node.{Node}
use Rattle.node_table.specs.declared.arrays.Slot.{Slot}
use Rattle.node_table.specs.Unfold.{is_valid, level_at, IsWell, tree_at}
use Rattle.node_table.specs.Table.{Notes, Table, node_at, tree_of, IsValid, live_of, numbers_below, IsTable}
use Rattle.node_table.specs.Arrays.{node_of, empty_slot, slot_at, node_in, table_of, IsLinked, PutsNode}
use Rattle.node_table.proofs.Unfolds.{tree_at-canonical, tree_at-node}
use Rattle.node_table.proofs.Numbers.{one_more, none_past}
use Rattle.node_table.proofs.Making.{MakesNode, makes_put}
use Rattle.node_table.proofs.Unfolds.{found_from_valid}
use Rattle.node_table.proofs.Writing.{node_within, own_node}

-- what holds inside holds of what contracts see, and the other way round
pub forth : (P : Table → ℕ → ℕ → Type 0) (s t : Table) (a low b high : ℕ) → s ≡ t → a ≡ low → b ≡ high → P s a b → P t low high
forth P s t a low b high v e f p = subst (λ x. P x low high) v (subst (λ x. P s x high) e (subst (λ x. P s a x) f p))

pub back : (P : Table → ℕ → Type 0) (s t : Table) (a low : ℕ) → s ≡ t → a ≡ low → P t low → P s a
back P s t a low v e p = subst (λ x. P x a) (sym v) (subst (λ x. P t x) (sym e) p)

-- the look-up of the table is that of the slots
pub seen : (room : ℕ) (slots : List Slot) (notes : Notes) → node_at (table_of room slots notes) ≡ node_in slots
seen room slots notes = fun_ext (λ h. get_or-map node_of slots h empty_slot)

pub is_table : (room : ℕ) (slots : List Slot) (heads : List ℕ) (notes : Notes) (first : ℕ) → IsLinked room slots heads first → IsTable (table_of room slots notes)
is_table room slots heads notes first l = record {
  well = subst IsWell (sym (seen room slots notes)) l.well;
  leaves = omega (arith, l.leaves, length-map slots node_of);
  few = omega (arith, l.few, length-map slots node_of);
}

-- the count of the nodes is the table's
pub counted : (room : ℕ) (slots : List Slot) (notes : Notes) (live : ℕ) → live ≡ length (numbers_below (node_in slots) (length slots)) → live ≡ live_of (table_of room slots notes)
counted room slots notes live e =
    e ∙ ap (λ (f : ℕ → Option Node). length (numbers_below f (length slots))) (sym (seen room slots notes))
    ∙ ap (λ n. length (numbers_below (node_at (table_of room slots notes)) n)) (sym (length-map slots node_of))

-- one node more is counted once
pub counted_more : (old new : List Slot) (node : Node) (number live : ℕ) → PutsNode old new node number → length old ≤ length new → live ≡ length (numbers_below (node_in old) (length old)) → live + 1 ≡ length (numbers_below (node_in new) (length new))
counted_more old new node number live p longer e =
    let more = one_more (node_in old) (node_in new) number node p.free p.put (length new) p.inside in
    let same = ap (λ (ns : List ℕ). length ns) (none_past (node_in old) (length old) (length new) longer (λ h a b. ap node_of (get_or_past old h empty_slot a))) in
    omega (arith, more, same, e)

module _ (room : ℕ) (slots : List Slot) (heads : List ℕ) (notes : Notes) (first : ℕ) (l : IsLinked room slots heads first) where
  -- a child's number is valid inside, and stands below the level
  pub child : (level h : ℕ) → IsValid (table_of room slots notes) h → level < top (tree_of (table_of room slots notes) h) → (is_valid (node_in slots) h ≡ true) × (level < level_at (node_in slots) h)
  child level h v below =
      let e = seen room slots notes in
      let inside : is_valid (node_in slots) h ≡ true = subst (λ f. is_valid f h ≡ true) e v in
      let b : level < top (tree_at (node_in slots) h) = subst (λ f. level < top (tree_at f h)) e below in
      (inside, omega (arith, b, (tree_at-canonical (node_in slots) l.well h inside).0))

  pub makes_held_node : (new : List Slot) (newer : List ℕ) (later : Notes) (first_after number : ℕ) (node : Node) → PutsNode slots new node number → IsLinked room new newer first_after → node.low ≢ node.high
      → ((h : ℕ) → node_in slots h ≡ Some node → ⊥) → node.level < 65536
      → let t : Table = table_of room slots notes in IsValid t node.low → IsValid t node.high → node.level < top (tree_of t node.low) → node.level < top (tree_of t node.high)
      → MakesNode t (table_of room new later) (join node.level (tree_of t node.low) (tree_of t node.high)) number
  makes_held_node new newer later first_after number node p m apart absent level low high below_low below_high =
      let t : Table = table_of room slots notes in
      let u : Table = table_of room new later in
      let e = seen room slots notes in
      let f = seen room new later in
      let put : (h : ℕ) → node_at u h ≡ cond (h == number) (Some node) (node_at t h) =
      λ h. ap (λ (g : ℕ → Option Node). g h) f ∙ p.put h ∙ ap (λ (g : ℕ → Option Node). cond (h == number) (Some node) (g h)) (sym e) in
      (makes_put t (is_table room slots heads notes first l) node low high apart (λ h q. absent h (ap (λ (g : ℕ → Option Node). g h) (sym e) ∙ q)) u refl number
      (ap (λ (g : ℕ → Option Node). g number) e ∙ p.free) p.two (omega (arith, m.leaves, length-map new node_of)) (omega (arith, m.few, length-map new node_of)) put below_low below_high level).1

  -- a valid number from 2 on has a slot
  pub has_slot : (h : ℕ) → IsValid (table_of room slots notes) h → h ≢ 0 → h ≢ 1 → (node_in slots h ≡ Some (slot_at slots h).node) × (h < length slots)
  has_slot h v a b =
      let w : is_valid (node_in slots) h ≡ true = subst (λ f. is_valid f h ≡ true) (seen room slots notes) v in
      let r = found_from_valid (node_in slots) h (omega (arith, a, b)) w in
      (own_node slots h r.0 r.1, node_within slots h r.0 r.1)

  -- a held node, as `branch` tells it
  pub told_node : (h : ℕ) (n : Node) → node_in slots h ≡ Some n → let t : Table = table_of room slots notes in (tree_of t h ≡ Branch n.level (tree_of t n.low) (tree_of t n.high)) × IsValid t n.low × IsValid t n.high
  told_node h n e =
      let s = seen room slots notes in
      subst (λ (f : ℕ → Option Node). (tree_at f h ≡ Branch n.level (tree_at f n.low) (tree_at f n.high)) × (is_valid f n.low ≡ true) × (is_valid f n.high ≡ true)) (sym s)
      (tree_at-node (node_in slots) l.well h n e, (l.well.low h n e).0, (l.well.high h n e).0)

  -- a valid handle has a slot, a leaf too
  pub valid_fits : (h : ℕ) → IsValid (table_of room slots notes) h → h < length slots
  valid_fits h v =
      ⊎_elim (λ (q : h < 2). omega (arith, q, l.leaves))
      (λ (q : 2 ≤ h). (has_slot h v (λ e. omega (arith, e, q)) (λ e. omega (arith, e, q))).1)
      (cases_lt h 2)

-- the arrays of an empty table
pub linked_empty : (room : ℕ) (heads : List ℕ) → 2 ≤ room → room ≤ 4194304 → 0 < length heads → ((b : ℕ) → slice_index_or heads b 0 ≡ 0) → IsLinked room (empty_slot ∷ (empty_slot ∷ [])) heads 0
linked_empty room heads two bound some none_yet = record {
  bound = bound;
  leaves = omega arith;
  few = omega arith;
  well = record {
    no_zero = refl;
    no_one = refl;
    low = λ h n e. absurd (none h n e);
    high = λ h n e. absurd (none h n e);
    apart = λ h n e. absurd (none h n e);
    level = λ h n e. absurd (none h n e);
    single = λ h k n e f. absurd (none h n e);
  };
  buckets = some;
  chained = record {
    head = λ b l. record { below = omega (arith, none_yet b); real = λ q. absurd (q (none_yet b)); greatest = λ k n e i m. absurd (none k n e) };
    link = λ h n e. absurd (none h n e);
  };
  free = record {
    start = record { real = λ q. absurd (q refl); least = λ k a b e. absurd (omega (arith, a, b)) };
    link = λ h a b e. absurd (omega (arith, a, b));
  };
}
  where
    none : (h : ℕ) (n : Node) → node_in (empty_slot ∷ (empty_slot ∷ [])) h ≡ Some n → ⊥
    none zero n e = cc
    none (suc zero) n e = cc
    none (suc (suc h)) n e = cc
