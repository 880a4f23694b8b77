-- The tree of an operation is ordered and reduced, and has the operation's value at all bits.
use Rattle.std.proofs.Common.{◌≡◌, ℕ, ◌+◌, ◌<◌, ◌≤◌, List, Bool, true, false, cond, refl, sym, ap, ◌∙◌, arith, ◌==◌}
use Rattle.std.specs.Prelude.{nat_lt}
use Rattle.std.proofs.lemmas.Bool.{cond_both}
use Rattle.std.proofs.lemmas.Bool.Decides.{Decides-eqb, Decides-ltb, nat_tests}
use Rattle.node_tree.specs.Tree.{Tree, Zero, One, Branch, bit, value, join, IsOrderedFrom, IsOrdered, IsReduced}
use Rattle.node_tree.proofs.OneTree.{one_tree}
use Rattle.node_tree.proofs.Setting.{weaken, join_ordered, join_value}
use Rattle.node_tree.proofs.Same.{join_reduced}
use Rattle.bdd_ops.specs.Apply.{leaf_of, map_leaves, merge, apply_tree}

-- ---- values

pub leaf-value : (b : Bool) (bits : List Bool) → value (leaf_of b) bits ≡ b
leaf-value true bits = refl
leaf-value false bits = refl

pub map_leaves-value : (f : Bool → Bool) (t : Tree) (bits : List Bool) → value (map_leaves f t) bits ≡ f (value t bits)
map_leaves-value f Zero bits = leaf-value (f false) bits
map_leaves-value f One bits = leaf-value (f true) bits
map_leaves-value f (Branch l a b) bits =
    join_value l (map_leaves f a) (map_leaves f b) bits
    ∙ elim (bit bits l) as (λ x. cond x (value (map_leaves f b) bits) (value (map_leaves f a) bits) ≡ f (cond x (value b bits) (value a bits)))
    [ true ↦ map_leaves-value f b bits | false ↦ map_leaves-value f a bits ]

at_parts : (h : Bool → Bool → Bool) (x va vb v p q : Bool) → p ≡ h va v → q ≡ h vb v → cond x q p ≡ h (cond x vb va) v
at_parts h true va vb v p q e f = f
at_parts h false va vb v p q e f = e

at_both : (h : Bool → Bool → Bool) (x va vb c d p q : Bool) → p ≡ h va c → q ≡ h vb d → cond x q p ≡ h (cond x vb va) (cond x d c)
at_both h true va vb c d p q e f = f
at_both h false va vb c d p q e f = e

at_right : (h : Bool → Bool → Bool) (x w c d p q : Bool) → p ≡ h w c → q ≡ h w d → cond x q p ≡ h w (cond x d c)
at_right h true w c d p q e f = f
at_right h false w c d p q e f = e

merge-value : (h : Bool → Bool → Bool) (l : ℕ) (f g : Tree → Tree) (va vb : Bool) (bits : List Bool) → ((w : Tree) → value (f w) bits ≡ h va (value w bits)) → ((w : Tree) → value (g w) bits
    ≡ h vb (value w bits))
    → (v : Tree) → value (merge l f g v) bits ≡ h (cond (bit bits l) vb va) (value v bits)
merge-value h l f g va vb bits x y Zero = join_value l (f Zero) (g Zero) bits ∙ at_parts h (bit bits l) va vb false _ _ (x Zero) (y Zero)
merge-value h l f g va vb bits x y One = join_value l (f One) (g One) bits ∙ at_parts h (bit bits l) va vb true _ _ (x One) (y One)
merge-value h l f g va vb bits x y (Branch m c d) =
    cond_both (nat_lt l m) (join l (f (Branch m c d)) (g (Branch m c d))) (cond (l == m) (join l (f c) (g d)) (join m (merge l f g c) (merge l f g d)))
    (λ t. value t bits ≡ h (cond (bit bits l) vb va) (value (Branch m c d) bits))
    (λ e. join_value l (f (Branch m c d)) (g (Branch m c d)) bits ∙ at_parts h (bit bits l) va vb (value (Branch m c d) bits) _ _ (x (Branch m c d)) (y (Branch m c d)))
    (λ e. cond_both (l == m) (join l (f c) (g d)) (join m (merge l f g c) (merge l f g d)) (λ t. value t bits ≡ h (cond (bit bits l) vb va) (value (Branch m c d) bits))
    (λ i. join_value l (f c) (g d) bits ∙ (at_both h (bit bits l) va vb (value c bits) (value d bits) _ _ (x c) (y d)
    ∙ ap (λ k. h (cond (bit bits l) vb va) (cond (bit bits k) (value d bits) (value c bits))) ((Decides-eqb l m).0 i)))
    (λ i. join_value m (merge l f g c) (merge l f g d) bits
    ∙ at_right h (bit bits m) (cond (bit bits l) vb va) (value c bits) (value d bits) _ _ (merge-value h l f g va vb bits x y c) (merge-value h l f g va vb bits x y d)))

-- the operation's value is the operation of the values
pub apply-value : (h : Bool → Bool → Bool) (u v : Tree) (bits : List Bool) → value (apply_tree h u v) bits ≡ h (value u bits) (value v bits)
apply-value h Zero v bits = map_leaves-value (h false) v bits
apply-value h One v bits = map_leaves-value (h true) v bits
apply-value h (Branch l a b) v bits = merge-value h l (apply_tree h a) (apply_tree h b) (value a bits) (value b bits) bits (λ w. apply-value h a w bits) (λ w. apply-value h b w bits) v

-- ---- order

leaf-ordered : (n : ℕ) (b : Bool) → IsOrderedFrom n (leaf_of b)
leaf-ordered n true = tt
leaf-ordered n false = tt

pub map_leaves-ordered : (f : Bool → Bool) (t : Tree) (n : ℕ) → IsOrderedFrom n t → IsOrderedFrom n (map_leaves f t)
map_leaves-ordered f Zero n o = leaf-ordered n (f false)
map_leaves-ordered f One n o = leaf-ordered n (f true)
map_leaves-ordered f (Branch l a b) n o = join_ordered l n (map_leaves f a) (map_leaves f b) o.0 (map_leaves-ordered f a (l + 1) o.1) (map_leaves-ordered f b (l + 1) o.2)

-- what f makes of a tree from a level on is ordered from there on
abbrev Orders : ℕ → (Tree → Tree) → Type 0
Orders m f = (n : ℕ) → n ≤ m → (v : Tree) → IsOrderedFrom n v → IsOrderedFrom n (f v)

merge-ordered : (l : ℕ) (f g : Tree → Tree) → Orders (l + 1) f → Orders (l + 1) g → Orders l (merge l f g)
merge-ordered l f g x y n h Zero o = join_ordered l n (f Zero) (g Zero) h (x (l + 1) (omega arith) Zero tt) (y (l + 1) (omega arith) Zero tt)
merge-ordered l f g x y n h One o = join_ordered l n (f One) (g One) h (x (l + 1) (omega arith) One tt) (y (l + 1) (omega arith) One tt)
merge-ordered l f g x y n h (Branch m c d) o =
    cond_both (nat_lt l m) (join l (f (Branch m c d)) (g (Branch m c d))) (cond (l == m) (join l (f c) (g d)) (join m (merge l f g c) (merge l f g d))) (IsOrderedFrom n)
    (λ e. let less : l < m = (Decides-ltb l m).0 e in
    let p : IsOrderedFrom (l + 1) (Branch m c d) = (omega arith, o.1, o.2) in
    join_ordered l n (f (Branch m c d)) (g (Branch m c d)) h (x (l + 1) (omega arith) (Branch m c d) p) (y (l + 1) (omega arith) (Branch m c d) p))
    (λ e. cond_both (l == m) (join l (f c) (g d)) (join m (merge l f g c) (merge l f g d)) (IsOrderedFrom n)
    (λ i. let same : l ≡ m = (Decides-eqb l m).0 i in
    join_ordered l n (f c) (g d) h (x (l + 1) (omega arith) c (weaken c (m + 1) (l + 1) (omega arith) o.1)) (y (l + 1) (omega arith) d (weaken d (m + 1) (l + 1) (omega arith) o.2)))
    (λ i. let more : m < l = above e i in
    join_ordered m n (merge l f g c) (merge l f g d) o.0 (merge-ordered l f g x y (m + 1) (omega arith) c o.1) (merge-ordered l f g x y (m + 1) (omega arith) d o.2)))
  where
    above : nat_lt l m ≡ false → (l == m) ≡ false → m < l
    above e i = grind (arith, nat_tests)

pub apply-ordered : (f : Bool → Bool → Bool) (u v : Tree) (n : ℕ) → IsOrderedFrom n u → IsOrderedFrom n v → IsOrderedFrom n (apply_tree f u v)
apply-ordered f Zero v n p q = map_leaves-ordered (f false) v n q
apply-ordered f One v n p q = map_leaves-ordered (f true) v n q
apply-ordered f (Branch l a b) v n p q =
    merge-ordered l (apply_tree f a) (apply_tree f b) (λ k h w o. apply-ordered f a w k (weaken a (l + 1) k h p.1) o) (λ k h w o. apply-ordered f b w k (weaken b (l + 1) k h p.2) o) n p.0 v q

-- ---- reduction

leaf-reduced : (b : Bool) → IsReduced (leaf_of b)
leaf-reduced true = tt
leaf-reduced false = tt

pub map_leaves-reduced : (f : Bool → Bool) (t : Tree) → IsReduced t → IsReduced (map_leaves f t)
map_leaves-reduced f Zero r = leaf-reduced (f false)
map_leaves-reduced f One r = leaf-reduced (f true)
map_leaves-reduced f (Branch l a b) r = join_reduced l (map_leaves f a) (map_leaves f b) (map_leaves-reduced f a r.1) (map_leaves-reduced f b r.2)

merge-reduced : (l : ℕ) (f g : Tree → Tree) → ((w : Tree) → IsReduced w → IsReduced (f w)) → ((w : Tree) → IsReduced w → IsReduced (g w)) → (v : Tree) → IsReduced v → IsReduced (merge l f g v)
merge-reduced l f g x y Zero r = join_reduced l (f Zero) (g Zero) (x Zero tt) (y Zero tt)
merge-reduced l f g x y One r = join_reduced l (f One) (g One) (x One tt) (y One tt)
merge-reduced l f g x y (Branch m c d) r =
    cond_both (nat_lt l m) (join l (f (Branch m c d)) (g (Branch m c d))) (cond (l == m) (join l (f c) (g d)) (join m (merge l f g c) (merge l f g d))) IsReduced
    (λ e. join_reduced l (f (Branch m c d)) (g (Branch m c d)) (x (Branch m c d) r) (y (Branch m c d) r))
    (λ e. cond_both (l == m) (join l (f c) (g d)) (join m (merge l f g c) (merge l f g d)) IsReduced
    (λ i. join_reduced l (f c) (g d) (x c r.1) (y d r.2))
    (λ i. join_reduced m (merge l f g c) (merge l f g d) (merge-reduced l f g x y c r.1) (merge-reduced l f g x y d r.2)))

pub apply-reduced : (f : Bool → Bool → Bool) (u v : Tree) → IsReduced u → IsReduced v → IsReduced (apply_tree f u v)
apply-reduced f Zero v p q = map_leaves-reduced (f false) v q
apply-reduced f One v p q = map_leaves-reduced (f true) v q
apply-reduced f (Branch l a b) v p q = merge-reduced l (apply_tree f a) (apply_tree f b) (λ w r. apply-reduced f a w p.1 r) (λ w r. apply-reduced f b w p.2 r) v q

-- ---- the tree of the values

-- a tree that has the operation's values is the operation's tree
pub apply-from_values : (f : Bool → Bool → Bool) (u v w : Tree) → IsOrdered u → IsReduced u → IsOrdered v → IsReduced v → IsOrdered w → IsReduced w → ((bits : List Bool) → value w bits ≡ f
    (value u bits) (value v bits)) → w ≡ apply_tree f u v
apply-from_values f u v w ou ru ov rv ow rw_ e =
    one_tree w (apply_tree f u v) ow rw_ (apply-ordered f u v 0 ou ov) (apply-reduced f u v ru rv) (λ bits. e bits ∙ sym (apply-value f u v bits))
