-- The tree at the entry to the block: a chain, and what a change of it makes of the whole.
use Rattle.std.proofs.Common.{◌≡◌, ℕ, ◌+◌, ◌≤◌, List, Bool, true, false, cond, Option, refl, sym, ap, ◌∙◌, arith}
use Rattle.std.specs.Prelude.{nat_lt}
use Rattle.std.proofs.lemmas.Bool.{cond_both, ltb-false, ltb-true}
use Rattle.node_tree.specs.Tree.{Tree, Zero, One, Branch, bit, value, join, IsOrderedFrom, IsReduced}
use Rattle.node_tree.proofs.OneTree.{one_tree}
use Rattle.node_tree.proofs.Same.{join_reduced}
use Rattle.node_tree.proofs.Setting.{weaken, join_ordered, join_value}
use Rattle.timed_bits.specs.Ages.{spelled, is_age, SameBefore, HasAges}
use Rattle.timed_bits.specs.Changes.{chain_of, read_on, at_entries}
use Rattle.timed_bits.specs.Entries.{entry, age_at}
use Rattle.timed_bits.proofs.Bits.{splice, splice-before, splice-after, spelled-agree}
use Rattle.timed_bits.proofs.Chains.{chain_of-ordered, chain_of-reduced, chain_of-value, chain_of-read}

-- choices are the same where their parts are
pub same_cond : {A : Type 0} (x y : Bool) (p q r s : A) → x ≡ y → p ≡ q → r ≡ s → cond x p r ≡ cond y q s
same_cond x y p q r s e f g = ap (λ z. cond z p r) e ∙ (ap (λ z. cond y z r) f ∙ ap (λ z. cond y q z) g)

-- a tree looks at no bit above its root
value-agree : (t : Tree) (n : ℕ) (bits other : List Bool) → IsOrderedFrom n t → ((l : ℕ) → n ≤ l → bit bits l ≡ bit other l) → value t bits ≡ value t other
value-agree Zero n bits other o h = refl
value-agree One n bits other o h = refl
value-agree (Branch l a b) n bits other o h =
    let first : n ≤ l = o.0 in
    let x = value-agree a (l + 1) bits other o.1 (λ k m. h k (omega arith)) in
    let y = value-agree b (l + 1) bits other o.2 (λ k m. h k (omega arith)) in
    same_cond (bit bits l) (bit other l) (value b bits) (value b other) (value a bits) (value a other) (h l first) y x

-- what stands at an entry has levels of the block on alone
pub entry-ordered : (first n : ℕ) (t : Tree) (bits : List Bool) → IsOrderedFrom n t → IsOrderedFrom first (entry first t bits)
entry-ordered first n Zero bits o = tt
entry-ordered first n One bits o = tt
entry-ordered first n (Branch l a b) bits o =
    cond_both (nat_lt l first) _ _ (IsOrderedFrom first)
    (λ e. cond_both (bit bits l) _ _ (IsOrderedFrom first) (λ i. entry-ordered first (l + 1) b bits o.2) (λ i. entry-ordered first (l + 1) a bits o.1))
    (λ e. (ltb-false l first e, o.1, o.2))

pub entry-reduced : (first : ℕ) (t : Tree) (bits : List Bool) → IsReduced t → IsReduced (entry first t bits)
entry-reduced first Zero bits r = tt
entry-reduced first One bits r = tt
entry-reduced first (Branch l a b) bits r =
    cond_both (nat_lt l first) _ _ IsReduced
    (λ e. cond_both (bit bits l) _ _ IsReduced (λ i. entry-reduced first b bits r.2) (λ i. entry-reduced first a bits r.1))
    (λ e. r)

pub entry-value : (first : ℕ) (t : Tree) (bits : List Bool) → value t bits ≡ value (entry first t bits) bits
entry-value first Zero bits = refl
entry-value first One bits = refl
entry-value first (Branch l a b) bits =
    cond_both (nat_lt l first) _ _ (λ u. value (Branch l a b) bits ≡ value u bits)
    (λ e. elim (bit bits l) as (λ x. cond x (value b bits) (value a bits) ≡ value (cond x (entry first b bits) (entry first a bits)) bits)
    [ true ↦ entry-value first b bits | false ↦ entry-value first a bits ])
    (λ e. refl)

pub entry-same : (first : ℕ) (t : Tree) (bits other : List Bool) → SameBefore first bits other → entry first t bits ≡ entry first t other
entry-same first Zero bits other h = refl
entry-same first One bits other h = refl
entry-same first (Branch l a b) bits other h =
    elim (nat_lt l first) as (λ x. nat_lt l first ≡ x → cond x (cond (bit bits l) (entry first b bits) (entry first a bits)) (Branch l a b) ≡ cond x (cond (bit other l) (entry first b other) (entry first a other)) (Branch l a b)) [
      | true ↦ λ e. same_cond (bit bits l) (bit other l) _ _ _ _ (h l (ltb-true l first e)) (entry-same first b bits other h) (entry-same first a bits other h)
      | false ↦ λ e. refl
    ] refl

-- the tree at each entry is the chain of the age there
pub entry-chain : (first width : ℕ) (t : Tree) (age : List Bool → Option ℕ) → HasAges first width t age → (bits : List Bool) → entry first t bits ≡ chain_of first width (age bits)
entry-chain first width t age h bits =
    let o = entry-ordered first 0 t bits h.ordered in
    let c = chain_of-ordered first width (age bits) in
    one_tree (entry first t bits) (chain_of first width (age bits)) (weaken _ first 0 (omega arith) o) (entry-reduced first t bits h.reduced)
    (weaken _ first 0 (omega arith) c) (chain_of-reduced first width (age bits))
    (λ other.
    (let both = splice first bits other in
    let early = splice-before first bits other in
    value-agree (entry first t bits) first other both o (λ l m. sym (splice-after first bits other l m))
    ∙ (ap (λ u. value u both) (sym (entry-same first t both bits early))
    ∙ (sym (entry-value first t both)
    ∙ (h.values both
    ∙ (ap (λ o. is_age o (spelled both first width)) (h.before both bits early)
    ∙ (ap (is_age (age bits)) (spelled-agree both other first width (splice-after first bits other))
    ∙ sym (chain_of-value first width (age bits) other (h.fits bits)))))))))

-- so the age can be read there
pub age-read : (first width : ℕ) (t : Tree) (age : List Bool → Option ℕ) → HasAges first width t age → (bits : List Bool) → age_at first t bits ≡ age bits
age-read first width t age h bits = ap (read_on 0) (entry-chain first width t age h bits) ∙ chain_of-read first width (age bits) (h.fits bits)

-- a change at the entries

pub at_entries-value : (first : ℕ) (g : Tree → Tree) (t : Tree) (bits : List Bool) → value (at_entries first g t) bits ≡ value (g (entry first t bits)) bits
at_entries-value first g Zero bits = refl
at_entries-value first g One bits = refl
at_entries-value first g (Branch l a b) bits =
    elim (nat_lt l first) as (λ x. value (cond x (join l (at_entries first g a) (at_entries first g b)) (g (Branch l a b))) bits ≡ value (g (cond x (cond (bit bits l) (entry first b bits) (entry first a bits)) (Branch l a b))) bits) [
      | true ↦ join_value l (at_entries first g a) (at_entries first g b) bits
          ∙ elim (bit bits l) as (λ x. cond x (value (at_entries first g b) bits) (value (at_entries first g a) bits) ≡ value (g (cond x (entry first b bits) (entry first a bits))) bits)
          [ true ↦ at_entries-value first g b bits | false ↦ at_entries-value first g a bits ]
      | false ↦ refl
    ]

-- what a change puts at the entries is ordered from the block on, and reduced
pub record IsFit (first : ℕ) (g : Tree → Tree) : Type 0 where
  pub ordered : (u : Tree) → IsOrderedFrom first (g u)
  pub reduced : (u : Tree) → IsReduced (g u)

pub at_entries-ordered : (first : ℕ) (g : Tree → Tree) → IsFit first g → (t : Tree) (n : ℕ) → n ≤ first → IsOrderedFrom n t → IsOrderedFrom n (at_entries first g t)
at_entries-ordered first g fit Zero n l o = weaken _ first n l (fit.ordered Zero)
at_entries-ordered first g fit One n l o = weaken _ first n l (fit.ordered One)
at_entries-ordered first g fit (Branch m a b) n l o =
    cond_both (nat_lt m first) (join m (at_entries first g a) (at_entries first g b)) (g (Branch m a b)) (IsOrderedFrom n)
    (λ e. (let lt = ltb-true m first e in
    join_ordered m n (at_entries first g a) (at_entries first g b) o.0 (at_entries-ordered first g fit a (m + 1) (omega (arith, lt)) o.1) (at_entries-ordered first g fit b (m + 1) (omega (arith, lt)) o.2)))
    (λ e. weaken _ first n l (fit.ordered (Branch m a b)))

pub at_entries-reduced : (first : ℕ) (g : Tree → Tree) → IsFit first g → (t : Tree) → IsReduced (at_entries first g t)
at_entries-reduced first g fit Zero = fit.reduced Zero
at_entries-reduced first g fit One = fit.reduced One
at_entries-reduced first g fit (Branch m a b) =
    cond_both (nat_lt m first) (join m (at_entries first g a) (at_entries first g b)) (g (Branch m a b)) IsReduced
    (λ e. join_reduced m (at_entries first g a) (at_entries first g b) (at_entries-reduced first g fit a) (at_entries-reduced first g fit b))
    (λ e. fit.reduced (Branch m a b))
