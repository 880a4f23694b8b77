-- Any code can be spelled in a block, the other bits staying.
use Rattle.std.proofs.Common.{◌≡◌, ◌≢◌, ℕ, zero, suc, ◌+◌, ◌*◌, ◌^◌, ◌<◌, ◌≤◌, ◌⊎◌, inl, inr, ⊎_elim, refl, sym, ap, ◌∙◌, arith, List, Bool, true, false}
use Rattle.std.specs.Prelude.{if◌then◌else◌}
use Rattle.std.proofs.Math.Nat.{two-pow-succ, mul-le-mul_right}
use Rattle.std.proofs.lemmas.Bool.{cases_order}
use Rattle.qtl_syntax.specs.Tree.{Text}
use Rattle.node_tree.specs.Tree.{bit}
use Rattle.node_tree.specs.Restrict.{with_bit}
use Rattle.node_tree.proofs.OneTree.{bit-put_same, put_other}
use Rattle.value_codes.specs.Pairs.{Pairs}
use Rattle.monitor_model.specs.Books.{reads}
use Rattle.timed_bits.specs.Ages.{spelled}
use Rattle.monitor_model.specs.Setting.{Setting, first_of, time_first, time_width}
use Rattle.monitor_model.specs.Drawn.{readings, age_at}
use Rattle.monitor_model.specs.Operations.{SameOutside}

pub spelled_same : (bits other : List Bool) (first n : ℕ) → ((l : ℕ) → first ≤ l → l < first + n → bit other l ≡ bit bits l) → spelled other first n ≡ spelled bits first n
spelled_same bits other first zero h = refl
spelled_same bits other first (suc n) h =
    let e = spelled_same bits other first n (λ l p q. h l p (omega arith)) in
    let f = h (first + n) (omega arith) (omega arith) in
    rw (e, f) refl

abbrev pub digit : Bool → ℕ
digit b = if b then 1 else 0

pub halves : (c : ℕ) → (h : ℕ) × (b : Bool) × (c ≡ 2 * h + digit b)
halves zero = (0, false, refl)
halves (suc c) = next (halves c)
  where
    next : (h : ℕ) × (b : Bool) × (c ≡ 2 * h + digit b) → (h : ℕ) × (b : Bool) × (suc c ≡ 2 * h + digit b)
    next (h, true, e) = (h + 1, false, omega arith)
    next (h, false, e) = (h, true, omega arith)

pub at_most : (b : Bool) → digit b ≤ 1
at_most true = omega arith
at_most false = omega arith

pub same_digit : (b d : Bool) (s h : ℕ) → 2 * s + digit b ≡ 2 * h + digit d → (s ≡ h) × (b ≡ d)
same_digit true true s h e = (omega arith, refl)
same_digit false false s h e = (omega arith, refl)
same_digit true false s h e = absurd (omega arith)
same_digit false true s h e = absurd (omega arith)

-- some bits spell the code in the block and are the same elsewhere
pub spell : (first n c : ℕ) (bits : List Bool) → c < 2 ^ n → (other : List Bool) × SameOutside first n bits other × (spelled other first n ≡ c)
spell first zero c bits h = (bits, λ l p. refl, omega arith)
spell first (suc n) c bits h =
    let (half, b, e) = halves c in
    let p = two-pow-succ n in
    let q = at_most b in
    let (other, outside, s) = spell first n half bits (omega arith) in
    let here : bit (with_bit other (first + n) b) (first + n) ≡ b = bit-put_same other (first + n) b in
    let below : spelled (with_bit other (first + n) b) first n ≡ spelled other first n = spelled_same other (with_bit other (first + n) b) first n (λ l x y. put_other other (first + n) l b (λ z. omega arith)) in (
      with_bit other (first + n) b,
      λ l o. put_other other (first + n) l b (λ z. ⊎_elim (λ x. omega arith) (λ x. omega arith) o) ∙ outside l (⊎_elim (λ x. inl x) (λ x. inr (omega arith)) o),
      rw (here, below, s) (sym e),
    )

-- a level of another variable's block lies before or behind the block of x
pub apart : (x y width l : ℕ) → y ≢ x → y * width ≤ l → l < y * width + width → (l < x * width) ⊎ (x * width + width ≤ l)
apart x y width l n p q = by_order (cases_order x y)
  where
    by_order : (x ≡ y) ⊎ ((x < y) ⊎ (y < x)) → (l < x * width) ⊎ (x * width + width ≤ l)
    by_order (inl e) = absurd (n (sym e))
    by_order (inr (inl h)) = let m = mul-le-mul_right {m = x + 1} {n = y} width (omega arith) in let d : (x + 1) * width ≡ x * width + width = omega arith in inr (omega arith)
    by_order (inr (inr h)) = let m = mul-le-mul_right {m = y + 1} {n = x} width (omega arith) in let d : (y + 1) * width ≡ y * width + width = omega arith in inl (omega arith)

-- the readings of the other variables stay
pub readings_other : (s : Setting) (books : ℕ → Pairs) (f : Text) (x y : ℕ) (bits other : List Bool) →
    SameOutside (x * s.bits) s.bits bits other → y ≢ x → readings s books f other y ≡ readings s books f bits y
readings_other s books f x y bits other o n =
    ap (λ (c : ℕ). reads (books y) f c)
    (spelled_same bits other (y * s.bits) s.bits (λ l p q. o l (apart x y s.bits l n p q)))

-- a variable's block ends before the time block
pub block_end : (s : Setting) (x : ℕ) → x < s.variables → first_of s x + s.bits ≤ time_first s
block_end s x p =
    let m : (x + 1) * s.bits ≤ s.variables * s.bits = mul-le-mul_right s.bits (omega arith) in
    let e : (x + 1) * s.bits ≡ x * s.bits + s.bits = grind arith in
    omega arith

-- other bits of a variable's block spell the same age
pub age_other : (s : Setting) (x : ℕ) (bits other : List Bool) → x < s.variables →
    SameOutside (first_of s x) s.bits bits other → age_at s other ≡ age_at s bits
age_other s x bits other low o =
    spelled_same bits other (time_first s) (time_width s)
    (λ l p q. let e = block_end s x low in o l (inr (omega arith)))

-- other bits of the time block spell the same texts
pub readings_time : (s : Setting) (books : ℕ → Pairs) (f : Text) (x : ℕ) (bits other : List Bool) →
    x < s.variables → SameOutside (time_first s) (time_width s) bits other →
    readings s books f other x ≡ readings s books f bits x
readings_time s books f x bits other low o =
    ap (λ (c : ℕ). reads (books x) f c)
    (spelled_same bits other (first_of s x) s.bits
    (λ l p q. let e = block_end s x low in o l (inl (omega arith))))
