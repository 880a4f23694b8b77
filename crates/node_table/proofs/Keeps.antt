-- What a collection leaves of the arrays.
use Rattle.std.proofs.Common.{◌≡◌, ℕ, zero, suc, ◌<◌, ◌≤◌, List, length, refl, ap, sym, ◌∙◌, arith, subst}
use Rattle.std.specs.Prelude.{true, false, Option, Some, None, nat_eq, slice_index_or, ◌⊎◌}
use Rattle.std.specs.Option.{is_some}
use Rattle.std.specs.List.{count_by}
use Rattle.std.specs.Set.{is_member}
use Rattle.std.proofs.lemmas.List.{length-map}
use Rattle.node_tree.specs.Tree.{tree_eq, branches}
use Rattle.node_table.specs.declared.node.Node.{Node}
use Rattle.node_table.specs.declared.arrays.Slot.{Slot}
use Rattle.node_table.specs.Unfold.{is_valid, tree_at, IsWell}
use Rattle.node_table.specs.Table.{Notes, node_at, IsTable, numbers_below}
use Rattle.node_table.specs.Chains.{IsChained, IsFree}
use Rattle.node_table.specs.Arrays.{node_of, node_in, chain_in, table_of, IsKept}
use Rattle.node_table.specs.Marks.{has_mark, is_kept, MarksTrees, swept_from}
use Rattle.node_table.specs.Collects.{AllValid, Collects}
use Rattle.node_table.proofs.Standing.{seen, is_table}
use Rattle.node_table.proofs.Marking.{mark_from_kept, marks_counted}
use Rattle.node_table.proofs.Sweeping.{swept_kept, swept_gone}
use Rattle.node_table.proofs.Collecting.{swept_table, collected}

-- handles that are valid outside are valid inside
pub valid_inside : (room : ℕ) (slots : List Slot) (notes : Notes) (hs : List ℕ) → AllValid (table_of room slots notes) hs → (j : ℕ) → j < length hs → is_valid (node_in slots) (slice_index_or hs j 0) ≡ true
valid_inside room slots notes hs v j l = subst (λ f. is_valid f (slice_index_or hs j 0) ≡ true) (seen room slots notes) (v j l)

module _ (room : ℕ) (slots : List Slot) (heads marks : List ℕ) (first round live : ℕ) (k : IsKept room slots heads marks first round live)
    (new : List Slot) (newer marked : List ℕ) (free after : ℕ) (roots more : List ℕ) (trees : MarksTrees (node_in slots) marked after roots more)
    (left : (h : ℕ) → node_in new h ≡ swept_from (node_in slots) marked after 2 h) (chained : IsChained (node_in new) (chain_in new) newer (length new)) (frees : IsFree (node_in new) (chain_in new) free (length new))
    (long : length new ≡ length slots) (some : 0 < length newer) (places : length marked ≡ length marks) (notes later : Notes) where
  two_on : (h : ℕ) (s : Node) → node_in slots h ≡ Some s → 2 ≤ h
  two_on zero s e = let z = k.linked.well.no_zero in cc
  two_on (suc zero) s e = let z = k.linked.well.no_one in cc
  two_on (suc (suc h)) s e = omega arith

  -- a number has a node afterwards where it is marked
  same : (h : ℕ) → is_some (node_in new h) ≡ has_mark marked after h
  same h = elim (has_mark marked after h) as (λ b. has_mark marked after h ≡ b → is_some (node_in new h) ≡ b) [
    | true ↦ λ e.
        let n = trees.nodes h e in
        let kept : is_kept marked after h ≡ true = mark_from_kept marked after h (two_on h n.0 n.1) ∙ e in
        ap is_some (left h ∙ swept_kept (node_in slots) marked after 2 h kept ∙ n.1)
    | false ↦ λ e. none h e
  ] refl
    where
      none : (h : ℕ) → has_mark marked after h ≡ false → is_some (node_in new h) ≡ false
      none zero e = ap is_some (left zero ∙ swept_kept (node_in slots) marked after 2 zero refl ∙ k.linked.well.no_zero)
      none (suc zero) e = ap is_some (left (suc zero) ∙ swept_kept (node_in slots) marked after 2 (suc zero) refl ∙ k.linked.well.no_one)
      none (suc (suc h)) e = ap is_some (left (suc (suc h)) ∙ swept_gone (node_in slots) marked after 2 (suc (suc h)) (omega arith) e)

  see : node_at (table_of room slots notes) ≡ node_in slots
  see = seen room slots notes

  see_new : node_at (table_of room new later) ≡ node_in new
  see_new = seen room new later

  at_old : (h : ℕ) → node_at (table_of room slots notes) h ≡ node_in slots h
  at_old h = ap (λ (f : ℕ → Option Node). f h) see

  at_new : (h : ℕ) → node_at (table_of room new later) h ≡ node_in new h
  at_new h = ap (λ (f : ℕ → Option Node). f h) see_new

  closed : (h : ℕ) (s : Node) → node_at (table_of room slots notes) h ≡ Some s → is_kept marked after h ≡ true → (is_kept marked after s.low ≡ true) × (is_kept marked after s.high ≡ true)
  closed h s e q = let i = sym (at_old h) ∙ e in trees.closed h s i (sym (mark_from_kept marked after h (two_on h s i)) ∙ q)

  stays : (h : ℕ) → is_kept marked after h ≡ true → node_at (table_of room new later) h ≡ node_at (table_of room slots notes) h
  stays h q = at_new h ∙ left h ∙ swept_kept (node_in slots) marked after 2 h q ∙ sym (at_old h)

  goes : (h : ℕ) → is_kept marked after h ≡ false → node_at (table_of room new later) h ≡ None
  goes zero q = cc
  goes (suc zero) q = cc
  goes (suc (suc h)) q = at_new (suc (suc h)) ∙ left (suc (suc h)) ∙ swept_gone (node_in slots) marked after 2 (suc (suc h)) (omega arith) q

  same_length : length (table_of room new later).nodes ≡ length (table_of room slots notes).nodes
  same_length = length-map new node_of ∙ long ∙ sym (length-map slots node_of)

  table : IsTable (table_of room slots notes)
  table = is_table room slots heads notes first k.linked

  pub left_table : IsTable (table_of room new later)
  left_table = swept_table (table_of room slots notes) (table_of room new later) table refl same_length (is_kept marked after) refl refl closed stays goes

  pub left_kept : ((h : ℕ) → slice_index_or marked h 0 ≤ after) → 0 < after → (count : ℕ) → count ≡ count_by (λ m. nat_eq m after) marked → IsKept room new newer marked free after count
  left_kept rounds started count e = record {
    linked = record {
      bound = k.linked.bound;
      leaves = omega (arith, k.linked.leaves, long);
      few = omega (arith, k.linked.few, long);
      well = subst IsWell see_new left_table.well;
      buckets = some;
      chained = chained;
      free = frees;
    };
    marked = places ∙ k.marked ∙ sym long;
    rounds = rounds;
    started = started;
    count = e ∙ marks_counted (node_in new) marked after same ∙ ap (λ n. length (numbers_below (node_in new) n)) (places ∙ k.marked ∙ sym long);
  }

  pub left_collected : AllValid (table_of room slots notes) roots → AllValid (table_of room slots notes) more → Collects (table_of room slots notes) (table_of room new later) roots more
  left_collected v w =
      collected (table_of room slots notes) (table_of room new later) table refl same_length (is_kept marked after) refl refl closed stays goes roots more v w trees.roots_kept trees.more_kept
      (λ h s e q. (let i = sym (at_old h) ∙ e in
      subst (λ (f : ℕ → Option Node). ((j : ℕ) × (j < length roots) × (is_member tree_eq (branches (tree_at f (slice_index_or roots j 0))) (tree_at f h) ≡ true)) ⊎ ((j : ℕ) × (j < length more) × (is_member tree_eq (branches (tree_at f (slice_index_or more j 0))) (tree_at f h) ≡ true)))
      (sym see) (trees.only h (sym (mark_from_kept marked after h (two_on h s i)) ∙ q))))
