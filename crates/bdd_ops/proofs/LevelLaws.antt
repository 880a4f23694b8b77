-- Laws of trees without a level.
use Rattle.std.proofs.Common.{◌≡◌, ◌≢◌, ℕ, ◌+◌, cond, refl, ap, ◌∙◌, arith}
use Rattle.std.specs.Prelude.{Bool, true, false, ◌==◌}
use Rattle.std.proofs.lemmas.Bool.{cond_both}
use Rattle.std.proofs.lemmas.Bool.Decides.{Decides-eqb}
use Rattle.node_tree.specs.Tree.{Tree, Zero, One, Branch, join, IsOrderedFrom, IsReduced}
use Rattle.node_tree.specs.Restrict.{restrict}
use Rattle.node_tree.proofs.Joins.{join-apart}
use Rattle.node_tree.proofs.Setting.{weaken, join_ordered}
use Rattle.node_tree.proofs.Same.{join_reduced}
use Rattle.bdd_ops.specs.declared.level.Merge.{Merge}
use Rattle.bdd_ops.specs.declared.level.Merge.TheVariants.{Low, High, Either, Both}
use Rattle.bdd_ops.specs.declared.op.Op.TheVariants.{And, Or}
use Rattle.bdd_ops.specs.Numbers.{truth_of}
use Rattle.bdd_ops.specs.Level.{at_level, merged, child}
use Rattle.bdd_ops.proofs.Values.{apply-ordered, apply-reduced}

-- ---- what takes the place of a branch

merged-ordered : (k : Merge) (a b : Tree) (n : ℕ) → IsOrderedFrom n a → IsOrderedFrom n b → IsOrderedFrom n (merged k a b)
merged-ordered Low a b n p q = p
merged-ordered High a b n p q = q
merged-ordered Either a b n p q = apply-ordered (truth_of Or) a b n p q
merged-ordered Both a b n p q = apply-ordered (truth_of And) a b n p q

merged-reduced : (k : Merge) (a b : Tree) → IsReduced a → IsReduced b → IsReduced (merged k a b)
merged-reduced Low a b p q = p
merged-reduced High a b p q = q
merged-reduced Either a b p q = apply-reduced (truth_of Or) a b p q
merged-reduced Both a b p q = apply-reduced (truth_of And) a b p q

-- ---- the tree

pub at_level-ordered : (k : Merge) (l : ℕ) (t : Tree) (n : ℕ) → IsOrderedFrom n t → IsOrderedFrom n (at_level (merged k) l t)
at_level-ordered k l Zero n o = tt
at_level-ordered k l One n o = tt
at_level-ordered k l (Branch m a b) n o =
    cond_both (m == l) (merged k a b) (join m (at_level (merged k) l a) (at_level (merged k) l b)) (IsOrderedFrom n)
    (λ e. weaken (merged k a b) (m + 1) n (let h = o.0 in omega (arith, h)) (merged-ordered k a b (m + 1) o.1 o.2))
    (λ e. join_ordered m n (at_level (merged k) l a) (at_level (merged k) l b) o.0 (at_level-ordered k l a (m + 1) o.1) (at_level-ordered k l b (m + 1) o.2))

pub at_level-reduced : (k : Merge) (l : ℕ) (t : Tree) → IsReduced t → IsReduced (at_level (merged k) l t)
at_level-reduced k l Zero r = tt
at_level-reduced k l One r = tt
at_level-reduced k l (Branch m a b) r =
    cond_both (m == l) (merged k a b) (join m (at_level (merged k) l a) (at_level (merged k) l b)) IsReduced
    (λ e. merged-reduced k a b r.1 r.2)
    (λ e. join_reduced m (at_level (merged k) l a) (at_level (merged k) l b) (at_level-reduced k l a r.1) (at_level-reduced k l b r.2))

pub at_level-here : (g : Tree → Tree → Tree) (m l : ℕ) (a b : Tree) → m ≡ l → at_level g l (Branch m a b) ≡ g a b
at_level-here g m l a b e = ap (λ x. cond x (g a b) (join m (at_level g l a) (at_level g l b))) ((Decides-eqb m l).1 e)

pub at_level-above : (g : Tree → Tree → Tree) (m l : ℕ) (a b : Tree) → m ≢ l → at_level g l (Branch m a b) ≡ join m (at_level g l a) (at_level g l b)
at_level-above g m l a b n = ap (λ x. cond x (g a b) (join m (at_level g l a) (at_level g l b))) (differ (m == l) refl)
  where
    differ : (x : Bool) → (m == l) ≡ x → x ≡ false
    differ true e = absurd (n ((Decides-eqb m l).0 e))
    differ false e = refl

-- a tree below the level stays
pub at_level-below : (g : Tree → Tree → Tree) (l : ℕ) (t : Tree) → IsOrderedFrom (l + 1) t → IsReduced t → at_level g l t ≡ t
at_level-below g l Zero o r = refl
at_level-below g l One o r = refl
at_level-below g l (Branch m a b) o r =
    let h = o.0 in
    at_level-above g m l a b (λ e. omega (arith, h, e))
    ∙ ap (λ x. join m x (at_level g l b)) (at_level-below g l a (weaken a (m + 1) (l + 1) (omega (arith, h)) o.1) r.1)
    ∙ ap (join m a) (at_level-below g l b (weaken b (m + 1) (l + 1) (omega (arith, h)) o.2) r.2)
    ∙ join-apart m a b r.0

-- restriction takes one child
pub restrict-is : (l : ℕ) (v : Bool) (t : Tree) → at_level (merged (child v)) l t ≡ restrict l v t
restrict-is l v Zero = refl
restrict-is l v One = refl
restrict-is l true (Branch m a b) =
    ap (λ x. cond (m == l) b (join m x (at_level (merged High) l b))) (restrict-is l true a) ∙ ap (λ x. cond (m == l) b (join m (restrict l true a) x)) (restrict-is l true b)
restrict-is l false (Branch m a b) =
    ap (λ x. cond (m == l) a (join m x (at_level (merged Low) l b))) (restrict-is l false a) ∙ ap (λ x. cond (m == l) a (join m (restrict l false a) x)) (restrict-is l false b)
