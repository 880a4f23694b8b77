-- Bits with a block set to a code spell the code there, and are the only ones that do.
use Rattle.std.proofs.Common.{◌≡◌, ◌≢◌, ℕ, zero, suc, ◌+◌, ◌-◌, ◌*◌, ◌^◌, ◌<◌, ◌≤◌, ◌⊎◌, inl, inr, ⊎_elim, refl, sym, ◌∙◌, subst, arith, List, Bool, true, false}
use Rattle.std.specs.Prelude.{if◌then◌else◌, nat_le}
use Rattle.std.proofs.Math.Nat.{two-pow-succ}
use Rattle.std.proofs.lemmas.Bool.{cases_lt, cases_eq}
use Rattle.std.proofs.lemmas.Bool.Decides.{leb_tells}
use Rattle.node_tree.specs.Tree.{Tree, bit, value}
use Rattle.node_tree.specs.Restrict.{with_bit}
use Rattle.node_tree.proofs.OneTree.{bit-put_same, put_other}
use Rattle.bdd_ops.specs.Reading.{with_code}
use Rattle.timed_bits.specs.Ages.{spelled}
use Rattle.monitor_model.specs.Operations.{SameOutside}
use Rattle.monitor_model.proofs.Spelling.Bits.{spelled_same, digit, at_most, same_digit}
use Rattle.monitor_model.proofs.Spelling.Blocks.{value_same, level_cases}

-- the first digit counts most
spelled_first : (bits : List Bool) (first n : ℕ) → spelled bits first (suc n) ≡ digit (bit bits first) * 2 ^ n + spelled bits (first + 1) n
spelled_first bits first zero =
    let e : first + 0 ≡ first = omega arith in
    subst (λ (l : ℕ). 2 * 0 + digit (bit bits l) ≡ digit (bit bits first) * 1 + 0) (sym e) (omega arith)
spelled_first bits first (suc n) =
    let h = spelled_first bits first n in
    let e : first + suc n ≡ first + 1 + n = omega arith in
    subst (λ (l : ℕ). 2 * spelled bits first (suc n) + digit (bit bits l) ≡ digit (bit bits first) * 2 ^ suc n + (2 * spelled bits (first + 1) n + digit (bit bits (first + 1 + n)))) (sym e)
    (doubled (bit bits first) (spelled bits first (suc n)) (spelled bits (first + 1) n) (digit (bit bits (first + 1 + n))) h)
  where
    doubled : (b : Bool) (whole rest last : ℕ) → whole ≡ digit b * 2 ^ n + rest → 2 * whole + last ≡ digit b * 2 ^ suc n + (2 * rest + last)
    doubled true whole rest last h = let p = two-pow-succ n in omega arith
    doubled false whole rest last h = omega arith

pub spelled_below : (bits : List Bool) (first n : ℕ) → spelled bits first n < 2 ^ n
spelled_below bits first zero = omega arith
spelled_below bits first (suc n) =
    let h = spelled_below bits first n in
    let p = two-pow-succ n in
    let q = at_most (bit bits (first + n)) in
    omega arith

-- the same number in the block and the same bits outside are the same bits
pub spelled_once : (first n : ℕ) (a b : List Bool) → SameOutside first n a b → spelled a first n ≡ spelled b first n → (l : ℕ) → bit b l ≡ bit a l
spelled_once first zero a b o e l = o l (⊎_elim (λ p. inl p) (λ p. inr (omega arith)) (cases_lt l first))
spelled_once first (suc n) a b o e l =
    let d = same_digit (bit a (first + n)) (bit b (first + n)) (spelled a first n) (spelled b first n) e in
    spelled_once first n a b (λ j p. by_level j d.1 (level_cases first n j p)) d.0 l
  where
    by_level : (l : ℕ) → bit a (first + n) ≡ bit b (first + n) → (l < first) ⊎ ((first + n ≡ l) ⊎ (first + suc n ≤ l)) → bit b l ≡ bit a l
    by_level l d (inl p) = o l (inl p)
    by_level l d (inr (inl p)) = subst (λ (j : ℕ). bit b j ≡ bit a j) p (sym d)
    by_level l d (inr (inr p)) = o l (inr p)

-- the same number in the block is the same bits there
pub spelled_inside : (first n : ℕ) (a b : List Bool) → spelled a first n ≡ spelled b first n → (l : ℕ) →
    first ≤ l → l < first + n → bit b l ≡ bit a l
spelled_inside first zero a b e l p q = absurd (omega arith)
spelled_inside first (suc n) a b e l p q =
    let d = same_digit (bit a (first + n)) (bit b (first + n)) (spelled a first n) (spelled b first n) e in
    by_level d.1 (λ r. spelled_inside first n a b d.0 l p r) (cases_eq (first + n) l)
  where
    by_level : bit a (first + n) ≡ bit b (first + n) → (l < first + n → bit b l ≡ bit a l) →
        (first + n ≡ l) ⊎ (first + n ≡ l → ⊥) → bit b l ≡ bit a l
    by_level d f (inl z) = subst (λ (j : ℕ). bit b j ≡ bit a j) z (sym d)
    by_level d f (inr z) = f (let y : first + n ≢ l = z in omega arith)

abbrev Sets : List Bool → (first n c : ℕ) → List Bool → Type 0
Sets bits first n c result = SameOutside first n bits result × (c < 2 ^ n → spelled result first n ≡ c)

sets_first : (bits rest : List Bool) (first n c d : ℕ) (v : Bool) → (c < 2 ^ suc n → (d < 2 ^ n) × (c ≡ digit v * 2 ^ n + d)) → Sets bits (first + 1) n d rest → Sets bits first (suc n) c (with_bit rest first v)
sets_first bits rest first n c d v split (o, s) = (
  λ l p. put_other rest first l v (λ e. ⊎_elim (λ x. omega arith) (λ x. omega arith) p) ∙ o l (⊎_elim (λ x. inl (omega arith)) (λ x. inr (omega arith)) p),
  λ low.
      let (small, e) = split low in
      let same : spelled (with_bit rest first v) (first + 1) n ≡ spelled rest (first + 1) n = spelled_same rest (with_bit rest first v) (first + 1) n (λ l p q. put_other rest first l v (λ z. omega arith)) in
      spelled_first (with_bit rest first v) first n ∙ rw (bit-put_same rest first v, same, s small) (sym e),
)

sets_code : (bits : List Bool) (first n c : ℕ) → Sets bits first n c (with_code bits first n c)
sets_code bits first zero c = (λ l p. refl, λ h. omega arith)
sets_code bits first (suc n) c = by_half (nat_le (2 ^ n) c) (leb_tells (2 ^ n) c) (sets_code bits (first + 1) n (c - 2 ^ n)) (sets_code bits (first + 1) n c)
  where
    by_half : (b : Bool) → ((b ≡ true) × (2 ^ n ≤ c)) ⊎ ((b ≡ false) × (c < 2 ^ n)) → Sets bits (first + 1) n (c - 2 ^ n) (with_code bits (first + 1) n (c - 2 ^ n)) →
        Sets bits (first + 1) n c (with_code bits (first + 1) n c) →
        Sets bits first (suc n) c (if b then with_bit (with_code bits (first + 1) n (c - 2 ^ n)) first true else with_bit (with_code bits (first + 1) n c) first false)
    by_half true (inl p) high low =
        let q = p.1 in
        let d = two-pow-succ n in
        sets_first bits _ first n c (c - 2 ^ n) true (λ h. (omega arith, omega arith)) high
    by_half false (inr p) high low =
        let q = p.1 in
        sets_first bits _ first n c c false (λ h. (q, omega arith)) low
    by_half true (inr p) high low = absurd (let e : true ≡ false = p.0 in cc)
    by_half false (inl p) high low = absurd (let e : false ≡ true = p.0 in cc)

-- the bits outside the block stay
pub with_code_outside : (bits : List Bool) (first n c : ℕ) → SameOutside first n bits (with_code bits first n c)
with_code_outside bits first n c = (sets_code bits first n c).0

-- the bits of the block spell the code
pub with_code_spells : (bits : List Bool) (first n c : ℕ) → c < 2 ^ n → spelled (with_code bits first n c) first n ≡ c
with_code_spells bits first n c = (sets_code bits first n c).1

-- bits that spell the code are those with the block set to it
pub with_code_again : (bits : List Bool) (first n c : ℕ) → spelled bits first n ≡ c → (l : ℕ) → bit (with_code bits first n c) l ≡ bit bits l
with_code_again bits first n c e =
    spelled_once first n bits (with_code bits first n c) (with_code_outside bits first n c)
    (e ∙ sym (with_code_spells bits first n c (subst (λ (k : ℕ). k < 2 ^ n) e (spelled_below bits first n))))

-- so is each tree's value
pub value_with_code : (t : Tree) (bits other : List Bool) (first n c : ℕ) → SameOutside first n bits other → spelled other first n ≡ c → value t (with_code bits first n c) ≡ value t other
value_with_code t bits other first n c o e =
    value_same t (with_code bits first n c) other
    (spelled_once first n other (with_code bits first n c) (λ l p. with_code_outside bits first n c l p ∙ sym (o l p))
    (e ∙ sym (with_code_spells bits first n c (subst (λ (k : ℕ). k < 2 ^ n) e (spelled_below other first n)))))
