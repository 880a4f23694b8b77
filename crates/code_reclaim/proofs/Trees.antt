-- Trees above a block: setting the block's bits goes into the children.
use Rattle.std.proofs.Common.{◌≡◌, ◌≢◌, ◌⊎◌, ℕ, zero, suc, ◌+◌, ◌-◌, ◌^◌, ◌<◌, cond, refl, ap, sym, ◌∙◌, arith, subst, inl, inr}
use Rattle.std.specs.Prelude.{Bool, true, false, not, ◌||◌, nat_le, nat_eq}
use Rattle.std.proofs.lemmas.Bool.Decides.{eqb_tells}
use Rattle.node_tree.specs.Tree.{Tree, Branch, join, tree_eq, IsOrderedFrom, IsReduced}
use Rattle.node_tree.specs.Restrict.{restrict}
use Rattle.node_tree.proofs.Same.{Tells, same_tells}
use Rattle.node_tree.proofs.Joins.{join-apart, join-same}
use Rattle.node_tree.proofs.Setting.{restrict_ordered, restrict_reduced}
use Rattle.bdd_ops.specs.Reading.{set_block}
use Rattle.code_reclaim.specs.Told.{differs}

-- a bit set below a level that joins two trees
restrict_join : (l m : ℕ) (v : Bool) (a b : Tree) → m ≢ l → restrict l v (join m a b) ≡ join m (restrict l v a) (restrict l v b)
restrict_join l m v a b n = by_test (same_tells a b) (eqb_tells m l)
  where
    by_test : Tells (tree_eq a b) a b → ((nat_eq m l ≡ true) × (m ≡ l)) ⊎ ((nat_eq m l ≡ false) × (m ≢ l)) → restrict l v (join m a b) ≡ join m (restrict l v a) (restrict l v b)
    by_test (inl p) q =
        ap (λ c. restrict l v (cond c a (Branch m a b))) p.0
        ∙ sym (join-same m (restrict l v a))
        ∙ ap (λ t. join m (restrict l v a) (restrict l v t)) p.1
    by_test (inr p) (inl q) = absurd (n q.1)
    by_test (inr p) (inr q) =
        ap (λ c. restrict l v (cond c a (Branch m a b))) p.0
        ∙ ap (λ c. cond c (cond v b a) (join m (restrict l v a) (restrict l v b))) q.0

-- setting a block's bits goes into joined trees
abbrev Joins : (n first m : ℕ) → Type 0
Joins n first m = (c : ℕ) (x y : Tree) → set_block first n c (join m x y) ≡ join m (set_block first n c x) (set_block first n c y)

pub block_join : (n first code m : ℕ) (a b : Tree) → m < first → set_block first n code (join m a b) ≡ join m (set_block first n code a) (set_block first n code b)
block_join zero first code m a b l = refl
block_join (suc n) first code m a b l = either (λ c x y. block_join n (first + 1) c m x y (omega (arith, l))) (nat_le (2 ^ n) code)
  where
    step : Joins n (first + 1) m → (v : Bool) (c : ℕ) → set_block (first + 1) n c (restrict first v (join m a b)) ≡ join m (set_block (first + 1) n c (restrict first v a)) (set_block (first + 1) n c (restrict first v b))
    step below v c = ap (set_block (first + 1) n c) (restrict_join first m v a b (λ e. omega (arith, l, e))) ∙ below c (restrict first v a) (restrict first v b)

    either : Joins n (first + 1) m → (x : Bool) → cond x (set_block (first + 1) n (code - 2 ^ n) (restrict first true (join m a b))) (set_block (first + 1) n code (restrict first false (join m a b)))
        ≡ join m (cond x (set_block (first + 1) n (code - 2 ^ n) (restrict first true a)) (set_block (first + 1) n code (restrict first false a)))
        (cond x (set_block (first + 1) n (code - 2 ^ n) (restrict first true b)) (set_block (first + 1) n code (restrict first false b)))
    either below true = step below true (code - 2 ^ n)
    either below false = step below false code

pub block_ordered : (n first code : ℕ) (t : Tree) (from : ℕ) → IsOrderedFrom from t → IsOrderedFrom from (set_block first n code t)
block_ordered zero first code t from o = o
block_ordered (suc n) first code t from o =
    either (nat_le (2 ^ n) code)
    (block_ordered n (first + 1) (code - 2 ^ n) (restrict first true t) from (restrict_ordered first true t from o))
    (block_ordered n (first + 1) code (restrict first false t) from (restrict_ordered first false t from o))
  where
    either : (x : Bool) → IsOrderedFrom from (set_block (first + 1) n (code - 2 ^ n) (restrict first true t)) → IsOrderedFrom from (set_block (first + 1) n code (restrict first false t))
        → IsOrderedFrom from (cond x (set_block (first + 1) n (code - 2 ^ n) (restrict first true t)) (set_block (first + 1) n code (restrict first false t)))
    either true p q = p
    either false p q = q

pub block_reduced : (n first code : ℕ) (t : Tree) → IsReduced t → IsReduced (set_block first n code t)
block_reduced zero first code t r = r
block_reduced (suc n) first code t r =
    either (nat_le (2 ^ n) code)
    (block_reduced n (first + 1) (code - 2 ^ n) (restrict first true t) (restrict_reduced first true t r))
    (block_reduced n (first + 1) code (restrict first false t) (restrict_reduced first false t r))
  where
    either : (x : Bool) → IsReduced (set_block (first + 1) n (code - 2 ^ n) (restrict first true t)) → IsReduced (set_block (first + 1) n code (restrict first false t))
        → IsReduced (cond x (set_block (first + 1) n (code - 2 ^ n) (restrict first true t)) (set_block (first + 1) n code (restrict first false t)))
    either true p q = p
    either false p q = q

-- trees below a level join to different trees where they differ
join_both : (m : ℕ) (a b c d : Tree) → IsOrderedFrom (m + 1) a → IsOrderedFrom (m + 1) c → join m a b ≡ join m c d → (a ≡ c) × (b ≡ d)
join_both m a b c d o p e = by_test (same_tells a b) (same_tells c d)
  where
    by_test : Tells (tree_eq a b) a b → Tells (tree_eq c d) c d → (a ≡ c) × (b ≡ d)
    by_test (inl x) (inl y) =
        let f : a ≡ c = sym (ap (λ z. cond z a (Branch m a b)) x.0) ∙ e ∙ ap (λ z. cond z c (Branch m c d)) y.0 in
        (f, sym x.1 ∙ f ∙ y.1)
    by_test (inl x) (inr y) =
        let f : a ≡ Branch m c d = sym (ap (λ z. cond z a (Branch m a b)) x.0) ∙ e ∙ ap (λ z. cond z c (Branch m c d)) y.0 in
        let q = subst (IsOrderedFrom (m + 1)) f o in
        let l = q.0 in
        absurd (omega (arith, l))
    by_test (inr x) (inl y) =
        let f : Branch m a b ≡ c = sym (ap (λ z. cond z a (Branch m a b)) x.0) ∙ e ∙ ap (λ z. cond z c (Branch m c d)) y.0 in
        let q = subst (IsOrderedFrom (m + 1)) (sym f) p in
        let l = q.0 in
        absurd (omega (arith, l))
    by_test (inr x) (inr y) =
        let f : Branch m a b ≡ Branch m c d = sym (ap (λ z. cond z a (Branch m a b)) x.0) ∙ e ∙ ap (λ z. cond z c (Branch m c d)) y.0 in
        (let g : a ≡ c = cc in g, let g : b ≡ d = cc in g)

-- joined trees differ where either differs
joins_differ : (m : ℕ) (a b c d : Tree) → IsOrderedFrom (m + 1) a → IsOrderedFrom (m + 1) c → not (tree_eq (join m a b) (join m c d)) ≡ (not (tree_eq a c) || not (tree_eq b d))
joins_differ m a b c d o p = by_test (same_tells a c) (same_tells b d) (same_tells (join m a b) (join m c d))
  where
    by_test : Tells (tree_eq a c) a c → Tells (tree_eq b d) b d → Tells (tree_eq (join m a b) (join m c d)) (join m a b) (join m c d) → not (tree_eq (join m a b) (join m c d)) ≡ (not (tree_eq a c) || not (tree_eq b d))
    by_test (inl x) (inl y) (inl z) = rw (x.0, y.0, z.0) refl
    by_test (inl x) (inl y) (inr z) = absurd (z.1 (ap (λ t. join m t b) x.1 ∙ ap (join m c) y.1))
    by_test (inl x) (inr y) (inl z) = absurd (y.1 (join_both m a b c d o p z.1).1)
    by_test (inl x) (inr y) (inr z) = rw (x.0, y.0, z.0) refl
    by_test (inr x) y (inl z) = absurd (x.1 (join_both m a b c d o p z.1).0)
    by_test (inr x) y (inr z) = rw (x.0, z.0) refl

-- a branch above the block differs where either child does
pub differs_branch : (first n code m : ℕ) (a b : Tree) → m < first → IsOrderedFrom (m + 1) a → IsReduced (Branch m a b) → differs first n code (Branch m a b) ≡ (differs first n code a || differs first n code b)
differs_branch first n code m a b l o r =
    ap (differs first n code) (sym (join-apart m a b r.0))
    ∙ ap (λ t. not (tree_eq t (set_block first n (2 ^ n - 1) (join m a b)))) (block_join n first code m a b l)
    ∙ ap (λ t. not (tree_eq (join m (set_block first n code a) (set_block first n code b)) t)) (block_join n first (2 ^ n - 1) m a b l)
    ∙ joins_differ m (set_block first n code a) (set_block first n code b) (set_block first n (2 ^ n - 1) a) (set_block first n (2 ^ n - 1) b) (block_ordered n first code a (m + 1) o) (block_ordered n first (2 ^ n - 1) a (m + 1) o)
