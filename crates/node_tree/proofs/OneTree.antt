-- Bryant's law: the values determine the ordered reduced tree.
use Rattle.std.proofs.Common.{◌≡◌, ◌≢◌, ℕ, zero, suc, ◌+◌, ◌<◌, ◌≤◌, ◌⊎◌, List, [], ◌∷◌, Bool, true, false, inl, inr, refl, sym, ap, ◌∙◌, subst, arith}
use Rattle.std.proofs.lemmas.Bool.{cases_lt}
use Rattle.node_tree.specs.Restrict.{with_bit}
use Rattle.node_tree.specs.Tree.{Tree, Zero, One, Branch, IsOrderedFrom, IsOrdered, IsReduced, bit, value, SameValues}

pub bit-put_same : (bs : List Bool) (l : ℕ) (v : Bool) → bit (with_bit bs l v) l ≡ v
bit-put_same [] zero v = refl
bit-put_same [] (suc l) v = bit-put_same [] l v
bit-put_same (b ∷ bs) zero v = refl
bit-put_same (b ∷ bs) (suc l) v = bit-put_same bs l v

pub bit-put_other : (bs : List Bool) (l k : ℕ) (v : Bool) → l < k → bit (with_bit bs l v) k ≡ bit bs k
bit-put_other [] zero zero v h = absurd (omega arith)
bit-put_other [] zero (suc k) v h = refl
bit-put_other [] (suc l) zero v h = absurd (omega arith)
bit-put_other [] (suc l) (suc k) v h = bit-put_other [] l k v (omega arith)
bit-put_other (b ∷ bs) zero zero v h = absurd (omega arith)
bit-put_other (b ∷ bs) zero (suc k) v h = refl
bit-put_other (b ∷ bs) (suc l) zero v h = absurd (omega arith)
bit-put_other (b ∷ bs) (suc l) (suc k) v h = bit-put_other bs l k v (omega arith)

pub put_other : (bs : List Bool) (l k : ℕ) (v : Bool) → l ≢ k → bit (with_bit bs l v) k ≡ bit bs k
put_other [] zero zero v h = absurd (h refl)
put_other [] zero (suc k) v h = refl
put_other [] (suc l) zero v h = refl
put_other [] (suc l) (suc k) v h = put_other [] l k v (λ e. h (ap (λ (n : ℕ). suc n) e))
put_other (b ∷ bs) zero zero v h = absurd (h refl)
put_other (b ∷ bs) zero (suc k) v h = refl
put_other (b ∷ bs) (suc l) zero v h = refl
put_other (b ∷ bs) (suc l) (suc k) v h = put_other bs l k v (λ e. h (ap (λ (n : ℕ). suc n) e))

-- a tree below a level doesn't look at its bit
pub skips : (t : Tree) (n l : ℕ) (bs : List Bool) (v : Bool) → IsOrderedFrom n t → l < n → value t (with_bit bs l v) ≡ value t bs
skips Zero n l bs v o h = refl
skips One n l bs v o h = refl
skips (Branch k a b) n l bs v o h =
    let first : n ≤ k = o.0 in
    let past : l < k = omega arith in
    let below : l < k + 1 = omega arith in
    rw (bit-put_other bs l k v past, skips a (k + 1) l bs v o.1 below, skips b (k + 1) l bs v o.2 below) refl

-- the value of a child, as that of the branch
pub low_is : (l : ℕ) (a b : Tree) (bs : List Bool) → IsOrderedFrom (l + 1) a → value a bs ≡ value (Branch l a b) (with_bit bs l false)
low_is l a b bs o = rw (bit-put_same bs l false) (sym (skips a (l + 1) l bs false o (omega arith)))

pub high_is : (l : ℕ) (a b : Tree) (bs : List Bool) → IsOrderedFrom (l + 1) b → value b bs ≡ value (Branch l a b) (with_bit bs l true)
high_is l a b bs o = rw (bit-put_same bs l true) (sym (skips b (l + 1) l bs true o (omega arith)))

-- where a tree below the level has the branch's values, so has each child
low_same : (l : ℕ) (a b t : Tree) → IsOrderedFrom (l + 1) a → IsOrderedFrom (l + 1) t → SameValues (Branch l a b) t → SameValues a t
low_same l a b t o p h bs = low_is l a b bs o ∙ (h (with_bit bs l false) ∙ skips t (l + 1) l bs false p (omega arith))

high_same : (l : ℕ) (a b t : Tree) → IsOrderedFrom (l + 1) b → IsOrderedFrom (l + 1) t → SameValues (Branch l a b) t → SameValues b t
high_same l a b t o p h bs = high_is l a b bs o ∙ (h (with_bit bs l true) ∙ skips t (l + 1) l bs true p (omega arith))

-- what is to be shown of a tree
abbrev pub Alone : Tree → Type 0
Alone s = (n : ℕ) (t : Tree) → IsOrderedFrom n s → IsReduced s → IsOrderedFrom n t → IsReduced t → SameValues s t → s ≡ t

at_zero : Alone Zero
at_zero n Zero o r p q h = refl
at_zero n One o r p q h = absurd (let e : false ≡ true = h [] in cc)
at_zero n (Branch l a b) o r p q h =
    let x = at_zero (l + 1) a tt tt p.1 q.1 (λ bs. sym (low_same l a b Zero p.1 tt (λ cs. sym (h cs)) bs)) in
    let y = at_zero (l + 1) b tt tt p.2 q.2 (λ bs. sym (high_same l a b Zero p.2 tt (λ cs. sym (h cs)) bs)) in
    absurd (q.0 (sym x ∙ y))

at_one : Alone One
at_one n Zero o r p q h = absurd (let e : true ≡ false = h [] in cc)
at_one n One o r p q h = refl
at_one n (Branch l a b) o r p q h =
    let x = at_one (l + 1) a tt tt p.1 q.1 (λ bs. sym (low_same l a b One p.1 tt (λ cs. sym (h cs)) bs)) in
    let y = at_one (l + 1) b tt tt p.2 q.2 (λ bs. sym (high_same l a b One p.2 tt (λ cs. sym (h cs)) bs)) in
    absurd (q.0 (sym x ∙ y))

-- at one level, child by child
at_level : (l : ℕ) (a b c d : Tree) → Alone a → Alone b → IsOrderedFrom (l + 1) a → IsOrderedFrom (l + 1) b → IsReduced a → IsReduced b →
    IsOrderedFrom (l + 1) c → IsOrderedFrom (l + 1) d → IsReduced c → IsReduced d → SameValues (Branch l a b) (Branch l c d) → Branch l a b ≡ Branch l c d
at_level l a b c d x y oa ob ra rb oc od rc rd h =
    let u = x (l + 1) c oa ra oc rc (λ bs. low_is l a b bs oa ∙ (h (with_bit bs l false) ∙ sym (low_is l c d bs oc))) in
    let v = y (l + 1) d ob rb od rd (λ bs. high_is l a b bs ob ∙ (h (with_bit bs l true) ∙ sym (high_is l c d bs od))) in
    cc

by_level : (l : ℕ) (a b : Tree) (m : ℕ) (c d : Tree) (n : ℕ) → Alone a → Alone b → IsOrderedFrom n (Branch l a b) → IsReduced (Branch l a b) →
    IsOrderedFrom n (Branch m c d) → IsReduced (Branch m c d) → SameValues (Branch l a b) (Branch m c d) →
    (IsOrderedFrom (m + 1) (Branch l a b) → SameValues (Branch l a b) c → Branch l a b ≡ c) →
    (IsOrderedFrom (m + 1) (Branch l a b) → SameValues (Branch l a b) d → Branch l a b ≡ d) →
    (l < m) ⊎ (m ≤ l) → (m < l) ⊎ (l ≤ m) → Branch l a b ≡ Branch m c d
by_level l a b m c d n x y o r p q h f g (inl i) j =
    let t = Branch m c d in
    let ot : IsOrderedFrom (l + 1) t = (omega arith, p.1, p.2) in
    let u = x (l + 1) t o.1 r.1 ot q (low_same l a b t o.1 ot h) in
    let v = y (l + 1) t o.2 r.2 ot q (high_same l a b t o.2 ot h) in
    absurd (r.0 (u ∙ sym v))
by_level l a b m c d n x y o r p q h f g (inr i) (inl j) =
    let s = Branch l a b in
    let os : IsOrderedFrom (m + 1) s = (omega arith, o.1, o.2) in
    let u = f os (λ bs. sym (low_same m c d s p.1 os (λ cs. sym (h cs)) bs)) in
    let v = g os (λ bs. sym (high_same m c d s p.2 os (λ cs. sym (h cs)) bs)) in
    absurd (q.0 (sym u ∙ v))
by_level l a b m c d n x y o r p q h f g (inr i) (inr j) =
    let e : l ≡ m = omega arith in
    let P : ℕ → Type 0 = λ k. IsOrderedFrom (k + 1) c → IsOrderedFrom (k + 1) d → SameValues (Branch l a b) (Branch k c d) → Branch l a b ≡ Branch k c d in
    subst P e (λ oc od k. at_level l a b c d x y o.1 o.2 r.1 r.2 oc od q.1 q.2 k) p.1 p.2 h

at_branch : (l : ℕ) (a b : Tree) → Alone a → Alone b → Alone (Branch l a b)
at_branch l a b x y n Zero o r p q h =
    let u = x (l + 1) Zero o.1 r.1 tt tt (low_same l a b Zero o.1 tt h) in
    let v = y (l + 1) Zero o.2 r.2 tt tt (high_same l a b Zero o.2 tt h) in
    absurd (r.0 (u ∙ sym v))
at_branch l a b x y n One o r p q h =
    let u = x (l + 1) One o.1 r.1 tt tt (low_same l a b One o.1 tt h) in
    let v = y (l + 1) One o.2 r.2 tt tt (high_same l a b One o.2 tt h) in
    absurd (r.0 (u ∙ sym v))
at_branch l a b x y n (Branch m c d) o r p q h =
    by_level l a b m c d n x y o r p q h
    (λ os k. at_branch l a b x y (m + 1) c os r p.1 q.1 k)
    (λ os k. at_branch l a b x y (m + 1) d os r p.2 q.2 k)
    (cases_lt l m) (cases_lt m l)

pub alone : (s : Tree) → Alone s
alone Zero = at_zero
alone One = at_one
alone (Branch l a b) = at_branch l a b (alone a) (alone b)

-- Bryant's law
pub one_tree : (s t : Tree) → IsOrdered s → IsReduced s → IsOrdered t → IsReduced t → SameValues s t → s ≡ t
one_tree s t o r p q h = alone s 0 t o r p q h
