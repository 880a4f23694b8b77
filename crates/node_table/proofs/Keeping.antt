-- Arrays that stay well linked.
use Rattle.std.proofs.Common.{◌≡◌, ◌≢◌, ℕ, ◌+◌, ◌<◌, List, ◌++◌, length, take, ap, sym, ◌∙◌, arith, subst}
use Rattle.std.specs.Prelude.{true, cond, ◌==◌, Some, None}
use Rattle.std.proofs.Math.Seq.{take-append_seam}
use Rattle.node_table.specs.declared.node.Node.{Node}
use Rattle.node_table.specs.declared.arrays.Slot.{Slot}
use Rattle.node_table.specs.Unfold.{is_valid, level_at}
use Rattle.node_table.specs.Chains.{IsChained, IsFree}
use Rattle.node_table.specs.Arrays.{node_in, chain_in, IsLinked}
use Rattle.node_table.proofs.Unfolds.{level_at-le}
use Rattle.node_table.proofs.Putting.{put_well}
use Rattle.node_table.proofs.Chaining.{free_taken, free_none}

-- what was lent as a slice and came back
pub came_back : {X : Type 0} (n : ℕ) (new rest : List X) → n ≡ length new → take n (new ++ rest) ≡ new
came_back n new rest e = ap (λ k. take k (new ++ rest)) e ∙ take-append_seam new rest

module _ (room : ℕ) (old new : List Slot) (heads newer : List ℕ) (node : Node) (apart : node.low ≢ node.high)
    (low : (is_valid (node_in old) node.low ≡ true) × (node.level < level_at (node_in old) node.low)) (high : (is_valid (node_in old) node.high ≡ true) × (node.level < level_at (node_in old) node.high))
    (absent : (h : ℕ) → node_in old h ≡ Some node → ⊥) (chained : IsChained (node_in new) (chain_in new) newer (length new)) (size : length newer ≡ length heads) where
  level : (first : ℕ) → IsLinked room old heads first → node.level < 65536
  level first l = omega (arith, low.1, level_at-le (node_in old) l.well node.low)

  pub linked_reused : (number : ℕ) → IsLinked room old heads number → number ≢ 0 → length new ≡ length old → ((h : ℕ) → node_in new h ≡ cond (h == number) (Some node) (node_in old h)) → ((h : ℕ) → node_in new h ≡ None → chain_in new h ≡ chain_in old h) → IsLinked room new newer (chain_in old number)
  linked_reused number l some long put same =
      let first = l.free.start.real some in
      record {
        bound = l.bound;
        leaves = omega (arith, l.leaves, long);
        few = omega (arith, l.few, long);
        well = put_well (node_in old) (node_in new) l.well number node first.2 (omega (arith, first.0)) put low high apart (level number l) absent;
        buckets = omega (arith, l.buckets, size);
        chained = chained;
        free = subst (λ n. IsFree (node_in new) (chain_in new) (chain_in old number) n) (sym long) (free_taken (node_in old) (node_in new) (chain_in old) (chain_in new) number (length old) node some put same l.free);
      }

  pub linked_appended : IsLinked room old heads 0 → length old < room + 2 → length new ≡ length old + 1 → node_in old (length old) ≡ None → ((h : ℕ) → node_in new h ≡ cond (h == length old) (Some node) (node_in old h)) → IsLinked room new newer 0
  linked_appended l fits long free put = record {
    bound = l.bound;
    leaves = omega (arith, l.leaves, long);
    few = omega (arith, fits, long);
    well = put_well (node_in old) (node_in new) l.well (length old) node free l.leaves put low high apart (level 0 l) absent;
    buckets = omega (arith, l.buckets, size);
    chained = chained;
    free = subst (λ n. IsFree (node_in new) (chain_in new) 0 n) (sym long) (free_none (node_in old) (node_in new) (chain_in old) (chain_in new) (length old) node put l.free);
  }
