-- Chains of bits.
use Rattle.std.proofs.Common.{◌≡◌, ℕ, zero, suc, ◌+◌, ◌-◌, ◌*◌, ◌^◌, ◌<◌, ◌≤◌, List, Bool, true, false, cond, Option, Some, None, refl, sym, ap, ◌∙◌, arith, subst}
use Rattle.std.specs.Prelude.{nat_eq, nat_le, IfSome}
use Rattle.std.proofs.lemmas.Bool.{cond_both, leb-true, leb-false}
use Rattle.std.proofs.lemmas.Bool.Decides.{Decides-eqb, same_from_decides, nat_tests}
use Rattle.node_tree.specs.Tree.{Tree, Zero, Branch, tree_eq, bit, value, IsOrderedFrom, IsReduced}
use Rattle.timed_bits.specs.Ages.{spelled, is_age}
use Rattle.timed_bits.specs.Changes.{chain, chain_of, read_on}
use Rattle.timed_bits.proofs.Bits.{double, spelled-below, spelled-first}

same_test : (a b c d : ℕ) → (a ≡ b → c ≡ d) → (c ≡ d → a ≡ b) → nat_eq a b ≡ nat_eq c d
same_test a b c d f g =
    same_from_decides (nat_eq a b) (nat_eq c d)
    ((λ e. f ((Decides-eqb a b).0 e)), (λ p. (Decides-eqb a b).1 (g p))) (Decides-eqb c d)

false_test : (c d : ℕ) → (c ≡ d → ⊥) → false ≡ nat_eq c d
false_test c d f = grind (arith, nat_tests)

-- no chain is the leaf that is false
pub chain-no_zero : (first width n : ℕ) → tree_eq (chain first width n) Zero ≡ false
chain-no_zero first zero n = refl
chain-no_zero first (suc w) n =
    cond_both (nat_le (2 ^ w) n) (Branch first Zero (chain (first + 1) w (n - 2 ^ w))) (Branch first (chain (first + 1) w n) Zero)
    (λ t. tree_eq t Zero ≡ false) (λ e. refl) (λ e. refl)

apart : (t : Tree) → tree_eq t Zero ≡ false → t ≡ Zero → ⊥
apart t e p = let q : tree_eq Zero Zero ≡ false = subst (λ u. tree_eq u Zero ≡ false) p e in cc

pub chain-ordered : (first width n : ℕ) → IsOrderedFrom first (chain first width n)
chain-ordered first zero n = tt
chain-ordered first (suc w) n =
    let a = chain (first + 1) w (n - 2 ^ w) in let b = chain (first + 1) w n in
    cond_both (nat_le (2 ^ w) n) (Branch first Zero a) (Branch first b Zero) (IsOrderedFrom first)
    (λ e. (omega arith, tt, chain-ordered (first + 1) w (n - 2 ^ w)))
    (λ e. (omega arith, chain-ordered (first + 1) w n, tt))

pub chain-reduced : (first width n : ℕ) → IsReduced (chain first width n)
chain-reduced first zero n = tt
chain-reduced first (suc w) n =
    let a = chain (first + 1) w (n - 2 ^ w) in let b = chain (first + 1) w n in
    cond_both (nat_le (2 ^ w) n) (Branch first Zero a) (Branch first b Zero) IsReduced
    (λ e. ((λ p. apart a (chain-no_zero (first + 1) w (n - 2 ^ w)) (sym p)), tt, chain-reduced (first + 1) w (n - 2 ^ w)))
    (λ e. ((λ p. apart b (chain-no_zero (first + 1) w n) p), chain-reduced (first + 1) w n, tt))

-- a chain is true exactly where the bits spell its number
pub chain-value : (first width n : ℕ) (bits : List Bool) → n < 2 ^ width → value (chain first width n) bits ≡ nat_eq n (spelled bits first width)
chain-value first zero n bits h = sym ((Decides-eqb n 0).1 (omega arith))
chain-value first (suc w) n bits h =
    let q = 2 ^ w in let s = spelled bits (first + 1) w in
    let small : s < q = spelled-below bits (first + 1) w in let d : 2 ^ suc w ≡ q + q = double w in
    let a = chain (first + 1) w (n - q) in let b = chain (first + 1) w n in
    cond_both (nat_le q n) (Branch first Zero a) (Branch first b Zero) (λ t. value t bits ≡ nat_eq n (cond (bit bits first) q 0 + s))
    (λ e. (let le : q ≤ n = leb-true q n e in
    elim (bit bits first) as (λ x. cond x (value a bits) false ≡ nat_eq n (cond x q 0 + s))
    [ true ↦ chain-value (first + 1) w (n - q) bits (omega (arith, le, d, h)) ∙ same_test (n - q) s n (q + s) (λ p. omega (arith, p, le)) (λ p. omega (arith, p, le)) | false ↦ false_test n (0 + s) (λ p. omega (arith, p, le, small)) ]))
    (λ e. (let lt : n < q = leb-false q n e in
    elim (bit bits first) as (λ x. cond x false (value b bits) ≡ nat_eq n (cond x q 0 + s))
    [ true ↦ false_test n (q + s) (λ p. omega (arith, p, lt)) | false ↦ chain-value (first + 1) w n bits lt ∙ same_test n s n (0 + s) (λ p. omega (arith, p)) (λ p. omega (arith, p)) ]))
    ∙ ap (nat_eq n) (sym (spelled-first bits first w))

twice : (m q : ℕ) → (2 * m + 1) * q ≡ m * (q + q) + q
twice m q = grind arith

twice_even : (m q : ℕ) → 2 * m * q ≡ m * (q + q)
twice_even m q = grind arith

-- reading a chain gives its number, behind the digits that were read
pub chain-read : (first width n m : ℕ) → n < 2 ^ width → read_on m (chain first width n) ≡ Some (m * 2 ^ width + n)
chain-read first zero n m h = ap (λ x. Some x) (omega arith)
chain-read first (suc w) n m h =
    let q = 2 ^ w in let d : 2 ^ suc w ≡ q + q = double w in
    let a = chain (first + 1) w (n - q) in let b = chain (first + 1) w n in
    let whole : m * 2 ^ suc w ≡ m * (q + q) = ap (λ x. m * x) d in
    cond_both (nat_le q n) (Branch first Zero a) (Branch first b Zero) (λ t. read_on m t ≡ Some (m * 2 ^ suc w + n))
    (λ e. (let le : q ≤ n = leb-true q n e in let r = twice m q in
    chain-read (first + 1) w (n - q) (2 * m + 1) (omega (arith, le, d, h)) ∙ ap (λ x. Some x) (omega (arith, r, le, whole))))
    (λ e. (let lt : n < q = leb-false q n e in let r = twice_even m q in
    ap (λ x. cond x (read_on (2 * m + 1) Zero) (read_on (2 * m) b)) (chain-no_zero (first + 1) w n)
    ∙ (chain-read (first + 1) w n (2 * m) lt ∙ ap (λ x. Some x) (omega (arith, r, whole)))))

-- with none

pub chain_of-ordered : (first width : ℕ) (o : Option ℕ) → IsOrderedFrom first (chain_of first width o)
chain_of-ordered first width None = tt
chain_of-ordered first width (Some n) = chain-ordered first width n

pub chain_of-reduced : (first width : ℕ) (o : Option ℕ) → IsReduced (chain_of first width o)
chain_of-reduced first width None = tt
chain_of-reduced first width (Some n) = chain-reduced first width n

pub chain_of-value : (first width : ℕ) (o : Option ℕ) (bits : List Bool) → IfSome o (λ a. a < 2 ^ width) → value (chain_of first width o) bits ≡ is_age o (spelled bits first width)
chain_of-value first width None bits h = refl
chain_of-value first width (Some n) bits h = chain-value first width n bits h

pub chain_of-read : (first width : ℕ) (o : Option ℕ) → IfSome o (λ a. a < 2 ^ width) → read_on 0 (chain_of first width o) ≡ o
chain_of-read first width None h = refl
chain_of-read first width (Some n) h = chain-read first width n 0 h ∙ ap (λ x. Some x) (omega arith)
