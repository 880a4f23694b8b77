-- Going down a block.
use Rattle.std.proofs.Common.{◌≡◌, ◌≢◌, ◌⊎◌, ℕ, zero, suc, ◌+◌, ◌-◌, ◌^◌, ◌<◌, List, cond, refl, ap, sym, ◌∙◌, arith, subst, inl, inr}
use Rattle.std.specs.Prelude.{Bool, true, false, nat_le, nat_eq}
use Rattle.std.proofs.lemmas.Bool.Decides.{eqb_tells}
use Rattle.node_tree.specs.Tree.{Tree, Zero, One, Branch, value, IsOrderedFrom, IsReduced}
use Rattle.node_tree.specs.Restrict.{restrict, with_bit}
use Rattle.node_tree.proofs.Setting.{weaken, restrict_ordered, restrict_value}
use Rattle.node_table.specs.Table.{Table, tree_of, IsValid}
use Rattle.bdd_ops.specs.Level.{merged, child}
use Rattle.bdd_ops.specs.Reading.{set_block, with_code}
use Rattle.bdd_ops.proofs.LevelLaws.{at_level-below, restrict-is}

restrict-below : (l : ℕ) (v : Bool) (t : Tree) → IsOrderedFrom (l + 1) t → IsReduced t → restrict l v t ≡ t
restrict-below l v t o r = sym (restrict-is l v t) ∙ at_level-below (merged (child v)) l t o r

-- a tree that has no node at the level stays
pub down_none : (l : ℕ) (v : Bool) (t : Tree) → IsOrderedFrom (l + 1) t → IsReduced t → t ≡ restrict l v t
down_none l v t o r = sym (restrict-below l v t o r)

-- below a level that a tree doesn't have
pub below_next : (l : ℕ) (v : Bool) (t : Tree) → IsOrderedFrom l t → IsReduced t → IsOrderedFrom (l + 1) (restrict l v t)
below_next l v Zero o r = tt
below_next l v One o r = tt
below_next l v (Branch m a b) o r = by_level (eqb_tells m l)
  where
    here : (w : Bool) → m ≡ l → IsOrderedFrom (l + 1) (cond w b a)
    here true e = weaken b (m + 1) (l + 1) (omega (arith, e)) o.2
    here false e = weaken a (m + 1) (l + 1) (omega (arith, e)) o.1

    above : m ≢ l → IsOrderedFrom (l + 1) (Branch m a b)
    above n = ((let p = o.0 in omega (arith, p, n)), o.1, o.2)

    by_level : ((nat_eq m l ≡ true) × (m ≡ l)) ⊎ ((nat_eq m l ≡ false) × (m ≢ l)) → IsOrderedFrom (l + 1) (restrict l v (Branch m a b))
    by_level (inl p) = rw p.0 (here v p.1)
    by_level (inr p) = subst (IsOrderedFrom (l + 1)) (sym (restrict-below l v (Branch m a b) (above p.1) r)) (above p.1)

pub set_block-value : (n first code : ℕ) (t : Tree) → IsOrderedFrom 0 t → (bits : List Bool) → value (set_block first n code t) bits ≡ value t (with_code bits first n code)
set_block-value zero first code t o bits = refl
set_block-value (suc n) first code t o bits =
    either (nat_le (2 ^ n) code)
    (set_block-value n (first + 1) (code - 2 ^ n) (restrict first true t) (restrict_ordered first true t 0 o) bits ∙ restrict_value first true t 0 o (with_code bits (first + 1) n (code - 2 ^ n)))
    (set_block-value n (first + 1) code (restrict first false t) (restrict_ordered first false t 0 o) bits ∙ restrict_value first false t 0 o (with_code bits (first + 1) n code))
  where
    either : (c : Bool) → value (set_block (first + 1) n (code - 2 ^ n) (restrict first true t)) bits ≡ value t (with_bit (with_code bits (first + 1) n (code - 2 ^ n)) first true) → value
        (set_block (first + 1) n code (restrict first false t)) bits ≡ value t (with_bit (with_code bits (first + 1) n code) first false) →
        value (cond c (set_block (first + 1) n (code - 2 ^ n) (restrict first true t)) (set_block (first + 1) n code (restrict first false t))) bits ≡ value t (cond c (with_bit (with_code
        bits (first + 1) n (code - 2 ^ n)) first true) (with_bit (with_code bits (first + 1) n code) first false))
    either true x y = x
    either false x y = y

-- a node on another level leaves the tree
pub down_other : (t : Table) (h l m low high : ℕ) (v : Bool) → (tree_of t h ≡ Branch m (tree_of t low) (tree_of t high)) × IsValid t low × IsValid t high → (m ≡ l → ⊥) → IsOrderedFrom l
    (tree_of t h) → IsReduced (tree_of t h) → tree_of t h ≡ restrict l v (tree_of t h)
down_other t h l m low high v e n o r =
    let p = subst (IsOrderedFrom l) e.0 o in
    let q : IsOrderedFrom (l + 1) (Branch m (tree_of t low) (tree_of t high)) = ((let x = p.0 in omega (arith, x, n)), p.1, p.2) in
    down_none l v (tree_of t h) (subst (IsOrderedFrom (l + 1)) (sym e.0) q) r

pub upper_half : (b code half : ℕ) → half + half ≡ 2 ^ b → half ≡ 2 ^ (b - 1) → code < 2 ^ b → code - half < 2 ^ (b - 1)
upper_half b code half e f l = let x : code - half < half = some_half code half (omega (arith, l, e)) in omega (arith, x, f)
  where
    some_half : (code half : ℕ) → code < half + half → code - half < half
    some_half code half l = omega (arith, l)

pub walk_values : (t : Table) (h r n first code : ℕ) → tree_of t r ≡ set_block first n code (tree_of t h) → IsOrderedFrom first (tree_of t h) → (bits : List Bool) → value (tree_of t r) bits
    ≡ value (tree_of t h) (with_code bits first n code)
walk_values t h r n first code e o bits = ap (λ x. value x bits) e ∙ set_block-value n first code (tree_of t h) (weaken (tree_of t h) first 0 (omega arith) o) bits
