-- Two ordered reduced trees are the same, or differ at some bits.
use Rattle.std.proofs.Common.{◌≡◌, ◌≢◌, ℕ, ◌+◌, ◌<◌, ◌≤◌, ◌⊎◌, List, [], Bool, true, false, inl, inr, refl, sym, ◌∙◌, subst, arith}
use Rattle.std.proofs.lemmas.Bool.{cases_lt}
use Rattle.node_tree.specs.Restrict.{with_bit}
use Rattle.node_tree.specs.Tree.{Tree, Zero, One, Branch, IsOrderedFrom, IsOrdered, IsReduced, value}
use Rattle.node_tree.proofs.OneTree.{skips, low_is, high_is}

-- some bits at which the values differ
abbrev pub Differ : Tree → Tree → Type 0
Differ s t = (bits : List Bool) × (value s bits ≢ value t bits)

turned : (s t : Tree) → (s ≡ t) ⊎ Differ s t → (t ≡ s) ⊎ Differ t s
turned s t (inl e) = inl (sym e)
turned s t (inr (bits, n)) = inr (bits, λ e. n (sym e))

-- a branch differs from a tree below its level where one of its children does
below : (l : ℕ) (a b t : Tree) → IsOrderedFrom (l + 1) a → IsOrderedFrom (l + 1) b → IsOrderedFrom (l + 1) t → a ≢ b → (a ≡ t) ⊎ Differ a t → (b ≡ t) ⊎ Differ b t → Differ (Branch l a b) t
below l a b t oa ob ot n (inl e) (inl f) = absurd (n (e ∙ sym f))
below l a b t oa ob ot n (inr (bits, d)) x = (with_bit bits l false, λ e. d (low_is l a b bits oa ∙ (e ∙ skips t (l + 1) l bits false ot (omega arith))))
below l a b t oa ob ot n (inl e) (inr (bits, d)) = (with_bit bits l true, λ f. d (high_is l a b bits ob ∙ (f ∙ skips t (l + 1) l bits true ot (omega arith))))

-- two branches of a level differ where their children do
level : (l : ℕ) (a b c d : Tree) → IsOrderedFrom (l + 1) a → IsOrderedFrom (l + 1) b → IsOrderedFrom (l + 1) c → IsOrderedFrom (l + 1) d → (a ≡ c) ⊎ Differ a c → (b ≡ d) ⊎ Differ b d →
    (Branch l a b ≡ Branch l c d) ⊎ Differ (Branch l a b) (Branch l c d)
level l a b c d oa ob oc od (inl e) (inl f) = inl (cc)
level l a b c d oa ob oc od (inr (bits, n)) x = inr (with_bit bits l false, λ e. n (low_is l a b bits oa ∙ (e ∙ sym (low_is l c d bits oc))))
level l a b c d oa ob oc od (inl e) (inr (bits, n)) = inr (with_bit bits l true, λ f. n (high_is l a b bits ob ∙ (f ∙ sym (high_is l c d bits od))))

abbrev pub Told : Tree → Type 0
Told s = (n : ℕ) (t : Tree) → IsOrderedFrom n s → IsReduced s → IsOrderedFrom n t → IsReduced t → (s ≡ t) ⊎ Differ s t

from_zero : Told Zero
from_zero n Zero o r p q = inl refl
from_zero n One o r p q = inr ([], λ e. cc)
from_zero n (Branch l a b) o r p q =
    turned _ _ (inr (below l a b Zero p.1 p.2 tt q.0 (turned _ _ (from_zero (l + 1) a tt tt p.1 q.1)) (turned _ _ (from_zero (l + 1) b tt tt p.2 q.2))))

from_one : Told One
from_one n Zero o r p q = inr ([], λ e. cc)
from_one n One o r p q = inl refl
from_one n (Branch l a b) o r p q =
    turned _ _ (inr (below l a b One p.1 p.2 tt q.0 (turned _ _ (from_one (l + 1) a tt tt p.1 q.1)) (turned _ _ (from_one (l + 1) b tt tt p.2 q.2))))

by_level : (l : ℕ) (a b : Tree) (m : ℕ) (c d : Tree) (n : ℕ) → Told a → Told b → IsOrderedFrom n (Branch l a b) → IsReduced (Branch l a b) →
    IsOrderedFrom n (Branch m c d) → IsReduced (Branch m c d) →
    (IsOrderedFrom (m + 1) (Branch l a b) → (Branch l a b ≡ c) ⊎ Differ (Branch l a b) c) →
    (IsOrderedFrom (m + 1) (Branch l a b) → (Branch l a b ≡ d) ⊎ Differ (Branch l a b) d) →
    (l < m) ⊎ (m ≤ l) → (m < l) ⊎ (l ≤ m) → (Branch l a b ≡ Branch m c d) ⊎ Differ (Branch l a b) (Branch m c d)
by_level l a b m c d n x y o r p q f g (inl i) j =
    let t = Branch m c d in
    let ot : IsOrderedFrom (l + 1) t = (omega arith, p.1, p.2) in
    inr (below l a b t o.1 o.2 ot r.0 (x (l + 1) t o.1 r.1 ot q) (y (l + 1) t o.2 r.2 ot q))
by_level l a b m c d n x y o r p q f g (inr i) (inl j) =
    let s = Branch l a b in
    let os : IsOrderedFrom (m + 1) s = (omega arith, o.1, o.2) in
    turned _ _ (inr (below m c d s p.1 p.2 os q.0 (turned _ _ (f os)) (turned _ _ (g os))))
by_level l a b m c d n x y o r p q f g (inr i) (inr j) =
    let e : l ≡ m = omega arith in
    let P : ℕ → Type 0 = λ k. IsOrderedFrom (k + 1) c → IsOrderedFrom (k + 1) d → (Branch l a b ≡ Branch k c d) ⊎ Differ (Branch l a b) (Branch k c d) in
    subst P e (λ oc od. level l a b c d o.1 o.2 oc od (x (l + 1) c o.1 r.1 oc q.1) (y (l + 1) d o.2 r.2 od q.2)) p.1 p.2

from_branch : (l : ℕ) (a b : Tree) → Told a → Told b → Told (Branch l a b)
from_branch l a b x y n Zero o r p q = inr (below l a b Zero o.1 o.2 tt r.0 (x (l + 1) Zero o.1 r.1 tt tt) (y (l + 1) Zero o.2 r.2 tt tt))
from_branch l a b x y n One o r p q = inr (below l a b One o.1 o.2 tt r.0 (x (l + 1) One o.1 r.1 tt tt) (y (l + 1) One o.2 r.2 tt tt))
from_branch l a b x y n (Branch m c d) o r p q =
    by_level l a b m c d n x y o r p q
    (λ os. from_branch l a b x y (m + 1) c os r p.1 q.1)
    (λ os. from_branch l a b x y (m + 1) d os r p.2 q.2)
    (cases_lt l m) (cases_lt m l)

pub told : (s : Tree) → Told s
told Zero = from_zero
told One = from_one
told (Branch l a b) = from_branch l a b (told a) (told b)

-- Bryant's law, with the bits at which different trees differ
pub same_or_differ : (s t : Tree) → IsOrdered s → IsReduced s → IsOrdered t → IsReduced t → (s ≡ t) ⊎ Differ s t
same_or_differ s t o r p q = told s 0 t o r p q
