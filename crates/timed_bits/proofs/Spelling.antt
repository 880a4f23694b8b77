-- Chains of bits, bit by bit.
use Rattle.std.proofs.Common.{◌≡◌, ℕ, zero, suc, ◌+◌, ◌-◌, ◌^◌, ◌<◌, ◌≤◌, false, cond, refl, ap, sym, ◌∙◌, arith, subst}
use Rattle.std.specs.Prelude.{nat_le}
use Rattle.std.proofs.lemmas.Bool.{cond_both, leb-true, leb-false}
use Rattle.node_tree.specs.Tree.{Tree, Zero, Branch, tree_eq, join, branches, top}
use Rattle.node_tree.proofs.Joins.{join_low, join_high, top_from_ordered}
use Rattle.bdd_ops.proofs.Growing.{In, IsPart}
use Rattle.timed_bits.specs.Changes.{chain}
use Rattle.timed_bits.specs.Changing.{IsChain}
use Rattle.timed_bits.proofs.Bits.{double}
use Rattle.timed_bits.proofs.Chains.{chain-no_zero, chain-ordered}
use Rattle.timed_bits.proofs.Taken.{first_bit}

-- reading

pub chain_high : (k width l : ℕ) (t a b : Tree) → width ≡ suc k → IsChain width t → t ≡ Branch l a b → a ≡ Zero → IsChain k b
chain_high k width l t a b w c e z =
    let small : c.1 < 2 ^ suc k = subst (λ x. c.1 < 2 ^ x) w c.2 in
    let is : Branch l a b ≡ chain c.0 (suc k) c.1 = sym e ∙ (c.3 ∙ ap (λ x. chain c.0 x c.1) w) in
    let h = (first_bit c.0 k c.1 l a b is).high z in let d = double k in
    (c.0 + 1, c.1 - 2 ^ k, omega (arith, small, h.0, d), h.1)

pub chain_low : (k width l : ℕ) (t a b : Tree) → width ≡ suc k → IsChain width t → t ≡ Branch l a b → (a ≡ Zero → ⊥) → IsChain k a
chain_low k width l t a b w c e z =
    let is : Branch l a b ≡ chain c.0 (suc k) c.1 = sym e ∙ (c.3 ∙ ap (λ x. chain c.0 x c.1) w) in
    let h = (first_bit c.0 k c.1 l a b is).low z in
    (c.0 + 1, c.1, h.0, h.1)

pub number_high : (k width l half r first n : ℕ) (t a b : Tree) → width ≡ suc k → half + half ≡ 2 ^ width → n < 2 ^ width → t ≡ Branch l a b → a ≡ Zero → t ≡ chain first width n →
    ((first n : ℕ) → n < 2 ^ k → b ≡ chain first k n → r ≡ n) → half + r ≡ n
number_high k width l half r first n t a b w top small e z c given =
    let small : n < 2 ^ suc k = subst (λ x. n < 2 ^ x) w small in
    let is : Branch l a b ≡ chain first (suc k) n = sym e ∙ (c ∙ ap (λ x. chain first x n) w) in
    let h = (first_bit first k n l a b is).high z in let d = double k in
    let top : half + half ≡ 2 ^ suc k = subst (λ x. half + half ≡ 2 ^ x) w top in
    let g = given (first + 1) (n - 2 ^ k) (omega (arith, small, h.0, d)) h.1 in omega (arith, g, h.0, d, top)

pub number_low : (k width l r first n : ℕ) (t a b : Tree) → width ≡ suc k → t ≡ Branch l a b → (a ≡ Zero → ⊥) → t ≡ chain first width n →
    ((first n : ℕ) → n < 2 ^ k → a ≡ chain first k n → r ≡ n) → r ≡ n
number_low k width l r first n t a b w e z c given =
    let is : Branch l a b ≡ chain first (suc k) n = sym e ∙ (c ∙ ap (λ x. chain first x n) w) in
    let h = (first_bit first k n l a b is).low z in given (first + 1) n h.0 h.1

-- making

no_zero : (first width n : ℕ) → tree_eq Zero (chain first width n) ≡ false
no_zero first zero n = refl
no_zero first (suc w) n =
    cond_both (nat_le (2 ^ w) n) (Branch first Zero (chain (first + 1) w (n - 2 ^ w))) (Branch first (chain (first + 1) w n) Zero) (λ t. tree_eq Zero t ≡ false) (λ e. refl) (λ e. refl)

pub half_is : (k width half : ℕ) → width ≡ suc k → half + half ≡ 2 ^ width → half ≡ 2 ^ k
half_is k width half w e =
    let f : half + half ≡ 2 ^ suc k = subst (λ x. half + half ≡ 2 ^ x) w e in let d = double k in omega (arith, f, d)

-- the rest of a chain whose first bit is 0, joined with the leaf that is false
pub low_joins : (k width level half n : ℕ) (p z : Tree) → width ≡ suc k → half + half ≡ 2 ^ width → n < half → p ≡ chain (level + 1) k n → z ≡ Zero → join level p z ≡ chain level width n
low_joins k width level half n p z w e less is none =
    let h = half_is k width half w e in
    ap (join level p) none ∙ (ap (λ x. join level x Zero) is
    ∙ (ap (λ b. cond b (chain (level + 1) k n) (Branch level (chain (level + 1) k n) Zero)) (chain-no_zero (level + 1) k n)
    ∙ (cond_both (nat_le (2 ^ k) n) (Branch level Zero (chain (level + 1) k (n - 2 ^ k))) (Branch level (chain (level + 1) k n) Zero) (λ t. Branch level (chain (level + 1) k n) Zero ≡ t)
    (λ b. absurd (let c = leb-true (2 ^ k) n b in omega (arith, c, less, h))) (λ b. refl)
    ∙ ap (λ x. chain level x n) (sym w))))

-- and of one whose first bit is 1
pub high_joins : (k width level half n : ℕ) (p z : Tree) → width ≡ suc k → half + half ≡ 2 ^ width → half ≤ n → p ≡ chain (level + 1) k (n - half) → z ≡ Zero → join level z p ≡ chain level width n
high_joins k width level half n p z w e more is none =
    let h = half_is k width half w e in let m = n - 2 ^ k in
    let is : p ≡ chain (level + 1) k m = is ∙ ap (λ x. chain (level + 1) k (n - x)) h in
    ap (λ x. join level x p) none ∙ (ap (join level Zero) is
    ∙ (ap (λ b. cond b Zero (Branch level Zero (chain (level + 1) k m))) (no_zero (level + 1) k m)
    ∙ (cond_both (nat_le (2 ^ k) n) (Branch level Zero (chain (level + 1) k (n - 2 ^ k))) (Branch level (chain (level + 1) k n) Zero) (λ t. Branch level Zero (chain (level + 1) k m) ≡ t)
    (λ b. refl) (λ b. absurd (let c = leb-false (2 ^ k) n b in omega (arith, c, more, h)))
    ∙ ap (λ x. chain level x n) (sym w))))

pub low_part : (k width level half n : ℕ) → width ≡ suc k → half + half ≡ 2 ^ width → n < half → IsPart (chain (level + 1) k n) (chain level width n)
low_part k width level half n w e less q m =
    subst (λ t. In (branches t) q) (low_joins k width level half n (chain (level + 1) k n) Zero w e less refl refl) (join_low level (chain (level + 1) k n) Zero q m)

pub high_part : (k width level half n : ℕ) → width ≡ suc k → half + half ≡ 2 ^ width → half ≤ n → IsPart (chain (level + 1) k (n - half)) (chain level width n)
high_part k width level half n w e more q m =
    subst (λ t. In (branches t) q) (high_joins k width level half n (chain (level + 1) k (n - half)) Zero w e more refl refl) (join_high level Zero (chain (level + 1) k (n - half)) q m)

pub small_high : (k width half n : ℕ) → width ≡ suc k → half + half ≡ 2 ^ width → half ≤ n → n < 2 ^ width → n - half < 2 ^ k
small_high k width half n w e more small = let h = half_is k width half w e in omega (arith, h, e, more, small)

-- a chain stands at its level or below
pub chain-top : (first width n : ℕ) → first ≤ 65536 → first ≤ top (chain first width n)
chain-top first width n h = top_from_ordered (chain first width n) first h (chain-ordered first width n)
