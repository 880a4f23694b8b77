-- The pass over numbers of terms, an item at a time.
use Rattle.std.proofs.Common.{◌≡◌, ℕ, ◌+◌, ◌<◌, List, length, take, drop, Option, Some, None, true, false, sym, get_or}
use Rattle.std.specs.Prelude.{map}
use Rattle.qtl_syntax.specs.Tree.{Formula, item_of}
use Rattle.qtl_syntax.specs.declared.formula.Item as rust_item
use Rattle.qtl_truth.specs.Items.{before_of}
use Rattle.qtl_truth.proofs.Places.{drop_at}
use Rattle.wellformed.specs.Clash.{Seen, IsClash}
use Rattle.wellformed.specs.Faults.{atoms_before, body_of, clash_pass, first_in, nodes_of}
use Rattle.wellformed.specs.Walk.{found_at}
use Rattle.wellformed.proofs.Clashes.{Tells, clash_here, tells_next}
use Rattle.wellformed.proofs.Found.{before_take}
use Rattle.wellformed.proofs.ItemSteps.{next_item, this_item}

module _ (items : List rust_item.Item) (m : ℕ) (item : rust_item.Item) (within : m < length items) (is : item ≡ get_or items m item)
    (old new : Seen) (told : Tells old (atoms_before (before_of (take m items)))) (node : ℕ) (nodes : List Formula) (own : nodes ≡ nodes_of (body_of (item_of item)))
    (all : Option (ℕ × ℕ)) (left : all ≡ first_in clash_pass (before_of (take m items)) m (map item_of (drop m items))) where
  found : (o : Option ℕ) → clash_pass (before_of (take m items)) (item_of item) (map item_of (drop (m + 1) items)) ≡ o →
      found_at clash_pass (before_of (take m items)) (map item_of (drop m items)) ≡ o
  found o e = rw (drop_at items m item within is) e

  pub item_clashes : IsClash (before_of (take m items)) old 0 nodes node new true → Some (m, node) ≡ all
  item_clashes h =
      let e = rw own at h in
      sym (this_item clash_pass items m node all within (found (Some node) (clash_here old (before_of (take m items)) 0 (nodes_of (body_of (item_of item))) (Some node) told e)) left)

  pub item_passes : IsClash (before_of (take m items)) old 0 nodes node new false → all ≡ first_in clash_pass (before_of (take (m + 1) items)) (m + 1) (map item_of (drop (m + 1) items))
  item_passes h =
      let e = rw own at h.0 in
      next_item clash_pass items m all within (found None (clash_here old (before_of (take m items)) 0 (nodes_of (body_of (item_of item))) None told e)) left

  pub item_seen : IsClash (before_of (take m items)) old 0 nodes node new false → Tells new (atoms_before (before_of (take (m + 1) items)))
  item_seen h =
      let e = rw own at h.0 in
      let f = rw own at h.2 in
      rw (before_take items m item within is) (tells_next old new (before_of (take m items)) 0 (nodes_of (body_of (item_of item))) told e f)
