-- The test of trees tells whether they are the same, and join makes reduced trees.
use Rattle.std.proofs.Common.{◌≡◌, ◌≢◌, ◌⊎◌, ℕ, inl, inr, Bool, true, false, ◌&&◌, refl}
use Rattle.std.specs.Prelude.{nat_eq, if◌then◌else◌}
use Rattle.std.proofs.lemmas.Bool.Decides.{eqb_tells}
use Rattle.node_tree.specs.Tree.{Tree, Zero, One, Branch, tree_eq, join, IsReduced}

abbrev pub Tells : Bool → Tree → Tree → Type 0
Tells b s t = ((b ≡ true) × (s ≡ t)) ⊎ ((b ≡ false) × (s ≢ t))

branch_tells : (x y z : Bool) (k l : ℕ) (a b c d : Tree) → ((x ≡ true) × (k ≡ l)) ⊎ ((x ≡ false) × (k ≢ l)) → Tells y a c → Tells z b d → Tells (x && (y && z)) (Branch k a b) (Branch l c d)
branch_tells x y z k l a b c d (inl p) (inl q) (inl r) = inl (rw (p.0, q.0, r.0) refl, let e = p.1 in let f = q.1 in let g = r.1 in cc)
branch_tells x y z k l a b c d (inl p) (inl q) (inr r) = inr (rw (p.0, q.0, r.0) refl, λ e. r.1 (let f : b ≡ d = cc in f))
branch_tells x y z k l a b c d (inl p) (inr q) r = inr (rw (p.0, q.0) refl, λ e. q.1 (let f : a ≡ c = cc in f))
branch_tells x y z k l a b c d (inr p) q r = inr (rw p.0 refl, λ e. p.1 (let f : k ≡ l = cc in f))

pub same_tells : (s t : Tree) → Tells (tree_eq s t) s t
same_tells Zero Zero = inl (refl, refl)
same_tells One One = inl (refl, refl)
same_tells (Branch k a b) (Branch l c d) =
    branch_tells (nat_eq k l) (tree_eq a c) (tree_eq b d) k l a b c d (eqb_tells k l) (same_tells a c) (same_tells b d)
same_tells _ _ = inr (refl, λ e. cc)

joined : (b : Bool) (l : ℕ) (s t : Tree) → Tells b s t → IsReduced s → IsReduced t → IsReduced (if b then s else Branch l s t)
joined b l s t (inl p) r q = rw p.0 r
joined b l s t (inr p) r q = rw p.0 (p.1, r, q)

pub join_reduced : (l : ℕ) (s t : Tree) → IsReduced s → IsReduced t → IsReduced (join l s t)
join_reduced l s t r q = joined (tree_eq s t) l s t (same_tells s t) r q

pub tree_eq-refl : (t : Tree) → tree_eq t t ≡ true
tree_eq-refl t = told (tree_eq t t) (same_tells t t)
  where
    told : (b : Bool) → Tells b t t → b ≡ true
    told b (inl p) = p.0
    told b (inr p) = absurd (p.1 refl)

pub same_tree : (s t : Tree) → tree_eq s t ≡ true → s ≡ t
same_tree s t h = told (same_tells s t)
  where
    told : Tells (tree_eq s t) s t → s ≡ t
    told (inl p) = p.1
    told (inr p) = (let e : true ≡ false = cc in cc)
