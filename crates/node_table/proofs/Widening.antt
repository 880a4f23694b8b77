-- Nodes that were put into other buckets.
use Rattle.std.proofs.Common.{◌≡◌, ℕ, ◌<◌, List, length, replicate, ap, sym, ◌∙◌, arith, subst, ⊎_elim}
use Rattle.std.specs.Prelude.{Option, None, slice_index_or, nat_eq, map, ◌≤◌}
use Rattle.std.proofs.Math.Path.{fun_ext}
use Rattle.std.proofs.Math.ListN.{get_or-map}
use Rattle.std.proofs.lemmas.Bool.{cases_lt}
use Rattle.std.proofs.lemmas.List.{ext_get_or, get_or-replicate, get_or_past, length-map, length-replicate}
use Rattle.node_table.specs.declared.node.Node.{Node}
use Rattle.node_table.specs.declared.arrays.Slot.{Slot}
use Rattle.node_table.specs.Unfold.{IsWell}
use Rattle.node_table.specs.Table.{Notes, Table, numbers_below}
use Rattle.node_table.specs.Chains.{IsChained, IsFree}
use Rattle.node_table.specs.Arrays.{node_of, empty_slot, node_in, chain_in, table_of, IsKept}

-- heads that are all 0
pub zeros : (n : ℕ) (heads : List ℕ) → heads ≡ replicate n 0 → (b : ℕ) → slice_index_or heads b 0 ≡ 0
zeros n heads e b = ap (λ (hs : List ℕ). slice_index_or hs b 0) e ∙ ⊎_elim (λ (q : b < n). get_or-replicate n b 0 0 q) (λ (q : n ≤ b). get_or_past (replicate n 0) b 0 (omega (arith, q, length-replicate {A = ℕ} n 0))) (cases_lt b n)

abbrev the_table : ℕ → List (Option Node) → Notes → Table
the_table room nodes notes = record { room = room; nodes = nodes; notes = notes }

module _ (slots new : List Slot) (same : (h : ℕ) → node_in new h ≡ node_in slots h) (long : length new ≡ length slots) where
  all_nodes : node_in slots ≡ node_in new
  all_nodes = fun_ext (λ h. sym (same h))

  -- contracts see the same nodes
  pub nodes_stay : map node_of new ≡ map node_of slots
  nodes_stay =
      ext_get_or None (map node_of new) (map node_of slots) (length-map new node_of ∙ long ∙ sym (length-map slots node_of))
      (λ h l. get_or-map node_of new h empty_slot ∙ same h ∙ sym (get_or-map node_of slots h empty_slot))

  pub table_stays : (room : ℕ) (notes : Notes) → table_of room new notes ≡ table_of room slots notes
  table_stays room notes = ap (λ (ns : List (Option Node)). the_table room ns notes) nodes_stay

  module _ (frees : (h : ℕ) → node_in slots h ≡ None → chain_in new h ≡ chain_in slots h) where
    free_stays : (first : ℕ) → IsFree (node_in slots) (chain_in slots) first (length slots) → IsFree (node_in new) (chain_in new) first (length new)
    free_stays first f =
        subst (λ n. IsFree (node_in new) (chain_in new) first n) (sym long)
        (subst (λ (k : ℕ → Option Node). IsFree k (chain_in new) first (length slots)) all_nodes (record {
          start = f.start;
          link = λ h a b e. (let n = f.link h a b e in let c = frees h e in record { real = λ q. (let r = n.real (λ z. q (c ∙ z)) in (omega (arith, r.0, c), omega (arith, r.1, c), ap (node_in slots) c ∙ r.2)); least = λ k x y z. (let r = n.least k x y z in ((λ w. r.0 (sym c ∙ w)), omega (arith, r.1, c))) });
        }))

    -- the arrays are kept
    pub kept_widened : (room : ℕ) (heads marks : List ℕ) (first round live : ℕ) → IsKept room slots heads marks first round live
        → (newer : List ℕ) → 0 < length newer → IsChained (node_in new) (chain_in new) newer (length new) → IsKept room new newer marks first round live
    kept_widened room heads marks first round live k newer some chained = record {
      linked = record {
        bound = k.linked.bound;
        leaves = omega (arith, k.linked.leaves, long);
        few = omega (arith, k.linked.few, long);
        well = subst IsWell all_nodes k.linked.well;
        buckets = some;
        chained = chained;
        free = free_stays first k.linked.free;
      };
      marked = k.marked ∙ sym long;
      rounds = k.rounds;
      started = k.started;
      count = k.count ∙ ap (λ n. length (numbers_below (node_in slots) n)) (sym long) ∙ ap (λ (f : ℕ → Option Node). length (numbers_below f (length new))) all_nodes;
    }
