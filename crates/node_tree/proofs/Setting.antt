-- What restricting does to order, reduction and values.
use Rattle.std.proofs.Common.{◌≡◌, ◌≢◌, ℕ, ◌+◌, ◌≤◌, ◌⊎◌, List, Bool, true, false, inl, inr, refl, sym, ap, ◌∙◌, arith}
use Rattle.std.specs.Prelude.{nat_eq, if◌then◌else◌}
use Rattle.std.proofs.lemmas.Bool.Decides.{eqb_tells}
use Rattle.node_tree.specs.Tree.{Tree, Zero, One, Branch, IsOrderedFrom, IsReduced, bit, value, tree_eq, join}
use Rattle.node_tree.specs.Restrict.{restrict, with_bit}
use Rattle.node_tree.proofs.OneTree.{skips, put_other, bit-put_same}
use Rattle.node_tree.proofs.Same.{Tells, same_tells, join_reduced}

pub weaken : (t : Tree) (n m : ℕ) → m ≤ n → IsOrderedFrom n t → IsOrderedFrom m t
weaken Zero n m h o = tt
weaken One n m h o = tt
weaken (Branch l a b) n m h o = (let p = o.0 in omega arith, o.1, o.2)

pub join_ordered : (l n : ℕ) (a b : Tree) → n ≤ l → IsOrderedFrom (l + 1) a → IsOrderedFrom (l + 1) b → IsOrderedFrom n (join l a b)
join_ordered l n a b h p q = by_test (tree_eq a b)
  where
    by_test : (v : Bool) → IsOrderedFrom n (if v then a else Branch l a b)
    by_test true = weaken a (l + 1) n (omega arith) p
    by_test false = (h, p, q)

pub join_value : (l : ℕ) (a b : Tree) (bits : List Bool) → value (join l a b) bits ≡ (if bit bits l then value b bits else value a bits)
join_value l a b bits = by_test (same_tells a b)
  where
    by_bit : (v : Bool) → value a bits ≡ value b bits → value a bits ≡ (if v then value b bits else value a bits)
    by_bit true e = e
    by_bit false e = refl

    by_test : Tells (tree_eq a b) a b → value (join l a b) bits ≡ (if bit bits l then value b bits else value a bits)
    by_test (inl p) = rw p.0 (by_bit (bit bits l) (ap (λ t. value t bits) p.1))
    by_test (inr p) = rw p.0 refl

pub restrict_ordered : (l : ℕ) (v : Bool) (t : Tree) (n : ℕ) → IsOrderedFrom n t → IsOrderedFrom n (restrict l v t)
restrict_ordered l v Zero n o = tt
restrict_ordered l v One n o = tt
restrict_ordered l v (Branch m a b) n o =
    by_level (nat_eq m l) v (join m (restrict l v a) (restrict l v b)) (join_ordered m n (restrict l v a) (restrict l v b) o.0 (restrict_ordered l v a (m + 1) o.1) (restrict_ordered l v b (m + 1) o.2))
  where
    by_level : (c v : Bool) (j : Tree) → IsOrderedFrom n j → IsOrderedFrom n (if c then (if v then b else a) else j)
    by_level true true j h = weaken b (m + 1) n (let p = o.0 in omega arith) o.2
    by_level true false j h = weaken a (m + 1) n (let p = o.0 in omega arith) o.1
    by_level false v j h = h

pub restrict_reduced : (l : ℕ) (v : Bool) (t : Tree) → IsReduced t → IsReduced (restrict l v t)
restrict_reduced l v Zero r = tt
restrict_reduced l v One r = tt
restrict_reduced l v (Branch m a b) r = by_level (nat_eq m l) v (join m (restrict l v a) (restrict l v b)) (join_reduced m _ _ (restrict_reduced l v a r.1) (restrict_reduced l v b r.2))
  where
    by_level : (c v : Bool) (j : Tree) → IsReduced j → IsReduced (if c then (if v then b else a) else j)
    by_level true true j h = r.2
    by_level true false j h = r.1
    by_level false v j h = h

pub restrict_value : (l : ℕ) (v : Bool) (t : Tree) (n : ℕ) → IsOrderedFrom n t → (bits : List Bool) → value (restrict l v t) bits ≡ value t (with_bit bits l v)
restrict_value l v Zero n o bits = refl
restrict_value l v One n o bits = refl
restrict_value l v (Branch m a b) n o bits =
    by_level (eqb_tells m l) v (restrict_value l v a (m + 1) o.1 bits) (restrict_value l v b (m + 1) o.2 bits)
  where
    other : (m ≢ l) → bit (with_bit bits l v) m ≡ bit bits m
    other d = put_other bits l m v (λ e. d (sym e))

    at_level : (w : Bool) → m ≡ l → value (if w then b else a) bits ≡ (if w then value b (with_bit bits l v) else value a (with_bit bits l v))
    at_level true e = sym (skips b (m + 1) l bits v o.2 (omega arith))
    at_level false e = sym (skips a (m + 1) l bits v o.1 (omega arith))

    by_level : ((nat_eq m l ≡ true) × (m ≡ l)) ⊎ ((nat_eq m l ≡ false) × (m ≢ l)) → (w : Bool) → value (restrict l v a) bits ≡ value a (with_bit bits l v) → value (restrict l v b) bits ≡ value b (with_bit bits l v) →
        value (if nat_eq m l then (if v then b else a) else join m (restrict l v a) (restrict l v b)) bits ≡ (if bit (with_bit bits l v) m then value b (with_bit bits l v) else value a (with_bit bits l v))
    by_level (inl p) w x y = rw (p.0, ap (bit (with_bit bits l v)) p.1 ∙ bit-put_same bits l v) (at_level v p.1)
    by_level (inr p) w x y =
        let e : (if bit bits m then value (restrict l v b) bits else value (restrict l v a) bits) ≡ (if bit (with_bit bits l v) m then value b (with_bit bits l v) else value a (with_bit bits l v)) =
        rw (other p.1, x, y) refl in
        rw p.0 (join_value m (restrict l v a) (restrict l v b) bits ∙ e)
