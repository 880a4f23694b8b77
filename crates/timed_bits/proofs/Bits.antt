-- Bits of a list, and the number that a block spells.
use Rattle.std.proofs.Common.{◌≡◌, ℕ, zero, suc, ◌+◌, ◌*◌, ◌^◌, ◌<◌, ◌≤◌, List, [], ◌∷◌, Bool, true, false, cond, refl, ap, ◌∙◌, arith}
use Rattle.std.specs.Prelude.{if◌then◌else◌}
use Rattle.std.proofs.Math.Nat.{two-pow-succ}
use Rattle.node_tree.specs.Tree.{bit}
use Rattle.timed_bits.specs.Ages.{spelled, SameBefore}

tail : List Bool → List Bool
tail [] = []
tail (b ∷ bs) = bs

bit-tail : (bits : List Bool) (l : ℕ) → bit (tail bits) l ≡ bit bits (suc l)
unfolding tail
bit-tail [] l = refl
bit-tail (b ∷ bs) l = refl

-- the first n bits of one list, then those of the other
pub splice : ℕ → List Bool → List Bool → List Bool
splice zero bits other = other
splice (suc n) bits other = bit bits 0 ∷ splice n (tail bits) (tail other)

pub splice-before : (n : ℕ) (bits other : List Bool) → SameBefore n (splice n bits other) bits
unfolding splice
splice-before zero bits other l h = absurd (omega arith)
splice-before (suc n) bits other zero h = refl
splice-before (suc n) bits other (suc l) h =
    splice-before n (tail bits) (tail other) l (omega arith) ∙ bit-tail bits l

pub splice-after : (n : ℕ) (bits other : List Bool) (l : ℕ) → n ≤ l → bit (splice n bits other) l ≡ bit other l
unfolding splice
splice-after zero bits other l h = refl
splice-after (suc n) bits other zero h = absurd (omega arith)
splice-after (suc n) bits other (suc l) h =
    splice-after n (tail bits) (tail other) l (omega arith) ∙ bit-tail other l

pub double : (w : ℕ) → 2 ^ suc w ≡ 2 ^ w + 2 ^ w
double w = let e = two-pow-succ w in omega (arith, e)

digit : Bool → ℕ
digit b = if b then 1 else 0

digit_bound : (b : Bool) → digit b ≤ 1
unfolding digit
digit_bound true = omega arith
digit_bound false = omega arith

-- each number that a block spells is one of the block
pub spelled-below : (bits : List Bool) (first width : ℕ) → spelled bits first width < 2 ^ width
unfolding digit
spelled-below bits first zero = omega arith
spelled-below bits first (suc w) =
    let h = spelled-below bits first w in let e = double w in let d = digit_bound (bit bits (first + w)) in omega (arith, h, e, d)

-- only the block's bits count
pub spelled-agree : (bits other : List Bool) (first width : ℕ) → ((l : ℕ) → first ≤ l → bit bits l ≡ bit other l) → spelled bits first width ≡ spelled other first width
spelled-agree bits other first zero h = refl
spelled-agree bits other first (suc w) h =
    ap (λ x. 2 * spelled bits first w + (if x then 1 else 0)) (h (first + w) (omega arith))
    ∙ ap (λ x. 2 * x + (if bit other (first + w) then 1 else 0)) (spelled-agree bits other first w h)

-- the first bit counts most
pub spelled-first : (bits : List Bool) (first w : ℕ) → spelled bits first (suc w) ≡ cond (bit bits first) (2 ^ w) 0 + spelled bits (first + 1) w
spelled-first bits first zero =
    let e : first + 0 ≡ first = omega arith in
    ap (λ l. 2 * 0 + (if bit bits l then 1 else 0)) e ∙ by_bit (bit bits first)
  where
    by_bit : (b : Bool) → 2 * 0 + (if b then 1 else 0) ≡ cond b (2 ^ 0) 0 + 0
    by_bit true = refl
    by_bit false = refl
spelled-first bits first (suc w) =
    let h = spelled-first bits first w in
    let e : first + suc w ≡ first + 1 + w = omega arith in
    ap (λ x. 2 * x + (if bit bits (first + suc w) then 1 else 0)) h
    ∙ ap (λ l. 2 * (cond (bit bits first) (2 ^ w) 0 + spelled bits (first + 1) w) + (if bit bits l then 1 else 0)) e
    ∙ by_bit (bit bits first) (spelled bits (first + 1) w) (if bit bits (first + 1 + w) then 1 else 0)
  where
    by_bit : (b : Bool) (s d : ℕ) → 2 * (cond b (2 ^ w) 0 + s) + d ≡ cond b (2 ^ suc w) 0 + (2 * s + d)
    by_bit true s d = let e = double w in omega (arith, e)
    by_bit false s d = omega arith
