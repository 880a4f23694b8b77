-- Counts, an item at a time.
use Rattle.std.proofs.Common.{◌≡◌, ℕ, ◌+◌, ◌<◌, ◌≤◌, List, [], ◌∷◌, ◌++◌, length, map, refl, arith, take, drop, get_or, reverse, append_assoc, append-nil}
use Rattle.std.specs.Prelude.{min}
use Rattle.std.proofs.lemmas.List.{reverse-append, drop_all}
use Rattle.qtl_syntax.specs.Tree.{Item, Pred, Prop, item_of}
use Rattle.qtl_syntax.specs.declared.formula.Item as rust_item
use Rattle.qtl_truth.specs.Items.{before_of}
use Rattle.wellformed.specs.declared.counts.Counts.{Counts}
use Rattle.wellformed.specs.Counts.{AreCounts, IsCount, IsCountOf, IsTotal}
use Rattle.wellformed.specs.Expansion.{props_quantifiers}
use Rattle.wellformed.specs.Faults.{body_of, props_size}
use Rattle.qtl_truth.proofs.Places.{drop_at}
use Rattle.wellformed.proofs.Found.{before_take, take_at}

-- a total with one item more
pub size_step : (item : Item) (old own new : Counts) (before after : List Item) (all : ℕ) → IsCountOf own before (body_of item) → IsTotal old own item new →
    min (old.size + props_size before (item ∷ after)) 1000000 ≡ all → min (new.size + props_size (item ∷ before) after) 1000000 ≡ all
size_step (Pred p params body) old own new before after all c t e = rw t e
size_step (Prop p body) old own new before after all c t e = let x = c.size in let y = t.0 in omega arith

pub quantifiers_step : (item : Item) (old own new : Counts) (before after : List Item) (all : ℕ) → IsCountOf own before (body_of item) → IsTotal old own item new →
    min (old.quantifiers + props_quantifiers before (item ∷ after)) 1000000 ≡ all → min (new.quantifiers + props_quantifiers (item ∷ before) after) 1000000 ≡ all
quantifiers_step (Pred p params body) old own new before after all c t e = rw t e
quantifiers_step (Prop p body) old own new before after all c t e = let x = c.quantifiers in let y = t.1 in omega arith

-- the counts of one item more
next_before : (item : Item) (items before : List Item) → reverse (item ∷ items) ++ before ≡ reverse items ++ (item ∷ before)
next_before item items before =
    let r : reverse (item ∷ items) ≡ reverse items ++ item ∷ [] = reverse-append (item ∷ []) items in
    rw r (append_assoc (reverse items) (item ∷ []) before)

more_counts : (before : List Item) (items : List rust_item.Item) (counts : List Counts) (item : rust_item.Item) (c : Counts) → AreCounts before items counts →
    IsCountOf c (before_of items ++ before) (body_of (item_of item)) → AreCounts before (items ++ item ∷ []) (counts ++ c ∷ [])
more_counts before [] [] item c a h = (h, tt)
more_counts before (i ∷ items) (d ∷ counts) item c a h =
    (a.0, more_counts (item_of i ∷ before) items counts item c a.1 (rw (next_before (item_of i) (map item_of items) before) at h))
more_counts before [] (d ∷ counts) item c a h = absurd a
more_counts before (i ∷ items) [] item c a h = absurd a

pub counts_step : (items : List rust_item.Item) (m : ℕ) (counts : List Counts) (item : rust_item.Item) (c : Counts) → m < length items → item ≡ get_or items m item →
    AreCounts [] (take m items) counts → IsCountOf c (before_of (take m items)) (body_of (item_of item)) → AreCounts [] (take (m + 1) items) (counts ++ c ∷ [])
counts_step items m counts item c l is a h =
    rw (take_at items m item l is) (more_counts [] (take m items) counts item c a (rw (append-nil (before_of (take m items))) h))

pub record Next (items : List rust_item.Item) (m : ℕ) (counts : List Counts) (old new : Counts) : Type 0 where
  pub known : AreCounts [] (take (m + 1) items) counts
  pub size : min (new.size + props_size (before_of (take (m + 1) items)) (map item_of (drop (m + 1) items))) 1000000 ≡ min (old.size + props_size (before_of (take m items)) (map item_of (drop m items))) 1000000
  pub quantifiers : min (new.quantifiers + props_quantifiers (before_of (take (m + 1) items)) (map item_of (drop (m + 1) items))) 1000000
      ≡ min (old.quantifiers + props_quantifiers (before_of (take m items)) (map item_of (drop m items))) 1000000

pub next_counts : (items : List rust_item.Item) (m : ℕ) (counts : List Counts) (item : rust_item.Item) (old own new : Counts) → m < length items → item ≡ get_or items m item →
    AreCounts [] (take m items) counts → IsCountOf own (before_of (take m items)) (body_of (item_of item)) → IsTotal old own (item_of item) new → Next items m (counts ++ own ∷ []) old new
next_counts items m counts item old own new l is a h t =
    let d = drop_at items m item l is in
    let b = before_take items m item l is in
    record {
      known = counts_step items m counts item own l is a h;
      size = rw (b, d) (size_step (item_of item) old own new (before_of (take m items)) (map item_of (drop (m + 1) items)) _ h t refl);
      quantifiers = rw (b, d) (quantifiers_step (item_of item) old own new (before_of (take m items)) (map item_of (drop (m + 1) items)) _ h t refl);
    }

-- all items were counted
pub all_counted : (items : List rust_item.Item) (m : ℕ) (total : Counts) → length items ≤ m → total.size ≤ 1000000 → total.quantifiers ≤ 1000000 →
    min (total.size + props_size (before_of (take m items)) (map item_of (drop m items))) 1000000 ≡ min (props_size [] (map item_of items)) 1000000 →
    min (total.quantifiers + props_quantifiers (before_of (take m items)) (map item_of (drop m items))) 1000000 ≡ min (props_quantifiers [] (map item_of items)) 1000000 →
    IsCount total (props_size [] (map item_of items)) (props_quantifiers [] (map item_of items))
all_counted items m total l p q e f =
    let none : drop m items ≡ [] = drop_all m items l in
    let d = rw none at e in
    let g = rw none at f in
    record { size = omega arith; quantifiers = omega arith }

-- a total is told up to the most
pub most_of : (item : Item) (old own new : Counts) → IsTotal old own item new → old.size ≤ 1000000 → old.quantifiers ≤ 1000000 → (new.size ≤ 1000000) × (new.quantifiers ≤ 1000000)
most_of (Pred p params body) old own new t x y = rw t (x, y)
most_of (Prop p body) old own new t x y = (let e = t.0 in omega arith, let e = t.1 in omega arith)
