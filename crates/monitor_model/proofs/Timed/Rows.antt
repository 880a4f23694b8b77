-- The rows of a timed operator draw the age that is remembered after the event, and what is true at it.
use Rattle.std.proofs.Common.{◌≡◌, ℕ, zero, suc, ◌+◌, ◌-◌, ◌^◌, ◌<◌, ◌≤◌, ◌⊎◌, ◌↔◌, inl, inr, ⊎_elim, refl, sym, ap, subst, arith, List, Bool, IsTrue, Option, Some, None}
use Rattle.qtl_syntax.specs.declared.formula.Bound.{Bound}
use Rattle.qtl_syntax.specs.declared.formula.Bound.TheVariants.{AtMost, MoreThan}
use Rattle.qtl_truth.specs.declared.event.Event.{Event}
use Rattle.qtl_truth.specs.Truth.{Claim, time_at, IsWithin, SomeTime, EachTime}
use Rattle.subformulas.specs.Memory.{IsLeastAge, IsGreatestAge, IsAge}
use Rattle.subformulas.proofs.Ages.{Rises, Bounded, delta, age_same}
use Rattle.subformulas.proofs.Agree.{Agree}
use Rattle.subformulas.proofs.Deciding.{EachDecided}
use Rattle.node_tree.specs.Tree.{Tree}
use Rattle.timed_bits.specs.Ages.{spelled, SameBefore, HasAges}
use Rattle.timed_bits.specs.Changes.{any_time, at_time, since_within, since_beyond}
use Rattle.timed_bits.proofs.Ages.{any_time-says, at_time-says}
use Rattle.monitor_model.specs.Drawn.{Draws}
use Rattle.monitor_model.proofs.Timed.Drawn.{age_of, is_age_of, has_ages}
use Rattle.monitor_model.proofs.Timed.Made.{ages_alike}
use Rattle.monitor_model.proofs.Timed.Nexts.{Is, least_next, greatest_next, least_says, greatest_says}
use Rattle.monitor_model.proofs.Timed.Remembered.{age_small, age_one}
use Rattle.monitor_model.proofs.Timed.Spelled.{draws_ages}

-- under a bound P is true S, and H is not P not
pub once_bounded : (b : Bound) (log : List Event) (f : Claim) (i : ℕ) →
    SomeTime (λ j. IsWithin b log i j × f j) i ↔ Bounded b log (λ j. Unit {0}) f i
once_bounded b log f i =
    (λ (j, p, q, (w, h)). (j, p, q, (w, h, λ k x y. tt)), λ (j, p, q, (w, h, af)). (j, p, q, (w, h)))

pub always_bounded : (b : Bound) (log : List Event) (f : Claim) (i : ℕ) → EachDecided f →
    EachTime (λ j. IsWithin b log i j → f j) i ↔ (¬ Bounded b log (λ j. Unit {0}) (λ j. ¬ f j) i)
always_bounded b log f i d = (
  λ h (j, p, q, (w, n, af)). n (h j p q w),
  λ h j p q w. ⊎_elim (λ y. y) (λ n. absurd (h (j, p, q, (w, n, λ k x y. tt)))) (d j p),
)

-- the operands say the same before a block of bits
abbrev pub EarlyClaim : ℕ → (List Bool → Claim) → Type 0
EarlyClaim first f = (bits other : List Bool) → SameBefore first bits other → (j : ℕ) → f bits j ↔ f other j

module _ (first width : ℕ) (log : List Event) (i : ℕ) (rise : Rises log (i + 1)) (f g : List Bool → Claim)
    (df : (bits : List Bool) → EachDecided (f bits))
    (dg : (bits : List Bool) → EachDecided (g bits)) (same_f : EarlyClaim first f)
    (same_g : EarlyClaim first g)
    (passed : ℕ) (passes : 1 ≤ i → passed ≡ time_at log (i + 1) - time_at log i) (m : Tree) (n : ℕ) where
  -- what is remembered before the event
  abbrev Before : Bound → List Bool → ℕ → Type 0
  Before b bits a = IsAge b log (f bits) (g bits) i a

  same_before : (b : Bound) (bits other : List Bool) (a : ℕ) → SameBefore first bits other →
      Before b bits a → Before b other a
  unfolding Agree
  same_before b bits other a h =
      (age_same b log (f bits) (f other) (g bits) (g other) i a (λ j x y. same_f bits other h j) (λ j x y. same_g bits other h j)).0

  none_at_first : (b : Bound) (a : ℕ) (bits : List Bool) → i ≡ 0 → ¬ Before b bits a
  none_at_first (AtMost k) a bits z (small, (j, p, q, s), each) = omega arith
  none_at_first (MoreThan k) a bits z ((j, p, q, s), each) = omega arith

  no_age : (b : Bound) (bits : List Bool) (o : Option ℕ) → Is o (Before b bits) → i ≡ 0 → o ≡ None
  no_age b bits None h z = refl
  no_age b bits (Some a) h z = absurd (none_at_first b a bits z ((h a).0 refl))

  -- at the first event there is no age yet, so that the time since the event before doesn't matter
  at_any_time : (b : Bound) (r : ℕ → Option ℕ → Option ℕ) (bits : List Bool) (o : Option ℕ) →
      Is o (Before b bits) → ((c d : ℕ) → r c None ≡ r d None) →
      (1 ≤ i) ⊎ (i ≡ 0) → r passed o ≡ r (delta log (f bits) (g bits) i) o
  at_any_time b r bits o h free (inl p) = ap (λ (d : ℕ). r d o) (passes p)
  at_any_time b r bits o h free (inr z) =
      subst (λ (x : Option ℕ). r passed x ≡ r (delta log (f bits) (g bits) i) x)
      (sym (no_age b bits o h z)) (free passed (delta log (f bits) (g bits) i))

  place : (k : ℕ) → (1 ≤ k) ⊎ (k ≡ 0)
  place zero = inr refl
  place (suc k) = inl (omega arith)

  module _ (fits : n < 2 ^ width) (before : Draws (λ bits. IsLeastAge log n (f bits) (g bits) i (spelled bits first width)) m) where
    least_small : (bits : List Bool) (a : ℕ) → Before (AtMost n) bits a → a < 2 ^ width
    least_small bits a h = let s = age_small (AtMost n) log (f bits) (g bits) i a h in omega arith

    least_one : (bits : List Bool) (a c : ℕ) → Before (AtMost n) bits a → Before (AtMost n) bits c →
        a ≡ c
    least_one bits a c p q = age_one (AtMost n) log (f bits) (g bits) i a c p q

    -- the rows of an operator within a bound
    pub least_rows : (e : Tree) (x y : List Bool → Bool) →
        ((bits : List Bool) → IsTrue (x bits) ↔ f bits (i + 1)) →
        ((bits : List Bool) → IsTrue (y bits) ↔ g bits (i + 1)) →
        ((age : List Bool → Option ℕ) → HasAges first width m age → HasAges first width e (λ bits. since_within n passed (x bits) (y bits) (age bits))) →
        Draws (λ bits. IsLeastAge log n (f bits) (g bits) (i + 1) (spelled bits first width)) e ×
        Draws (λ bits. Bounded (AtMost n) log (f bits) (g bits) (i + 1)) (any_time first width e)
    least_rows e x y p q make =
        let M = Before (AtMost n) in
        let age = age_of first width m M before.values (same_before (AtMost n)) least_small
        least_one in
        let old : (bits : List Bool) → Is (age bits) (M bits) = is_age_of first width m M before.values (same_before (AtMost n)) least_small least_one in
        let made = make age
        (has_ages first width m M before.values (same_before (AtMost n)) least_small least_one before.ordered before.reduced)
        in
        let now : List Bool → Option ℕ = λ bits. since_within n (delta log (f bits) (g bits) i) (x bits) (y bits) (age bits) in
        let ages = ages_alike first width e
        (λ bits. since_within n passed (x bits) (y bits) (age bits)) now
        (λ bits. at_any_time (AtMost n) (λ d o. since_within n d (x bits) (y bits) o) bits (age bits) (old bits) (λ c d. refl) (place i))
        made in
        let next : (bits : List Bool) → Is (now bits) (IsLeastAge log n (f bits) (g bits) (i + 1)) =
        λ bits. least_next log (f bits) (g bits) (i + 1) i rise (omega arith) n (x bits) (y bits) (age bits) (p bits) (q bits) (old bits) in
        let says = any_time-says first width e now ages in (
          record {
            ordered = ages.ordered;
            reduced = ages.reduced;
            values =
                draws_ages first width e now ages
                (λ bits a. IsLeastAge log n (f bits) (g bits) (i + 1) a) next;
          },
          record {
            ordered = says.ordered;
            reduced = says.reduced;
            values =
                λ bits. subst (λ (b : Bool). IsTrue b ↔ Bounded (AtMost n) log (f bits) (g bits) (i + 1)) (sym (says.values bits))
                (least_says log (f bits) (g bits) (i + 1) (i + 1) n (now bits) rise (omega arith) (dg bits) (next bits));
          },
        )

  module _ (fits : n + 1 < 2 ^ width) (before : Draws (λ bits. IsGreatestAge log n (f bits) (g bits) i (spelled bits first width)) m) where
    greatest_small : (bits : List Bool) (a : ℕ) → Before (MoreThan n) bits a → a < 2 ^ width
    greatest_small bits a h = let s = age_small (MoreThan n) log (f bits) (g bits) i a h in omega arith

    greatest_one : (bits : List Bool) (a c : ℕ) → Before (MoreThan n) bits a →
        Before (MoreThan n) bits c → a ≡ c
    greatest_one bits a c p q = age_one (MoreThan n) log (f bits) (g bits) i a c p q

    -- the rows of an operator past a bound
    pub greatest_rows : (e : Tree) (x y : List Bool → Bool) →
        ((bits : List Bool) → IsTrue (x bits) ↔ f bits (i + 1)) →
        ((bits : List Bool) → IsTrue (y bits) ↔ g bits (i + 1)) →
        ((age : List Bool → Option ℕ) → HasAges first width m age → HasAges first width e (λ bits. since_beyond n passed (x bits) (y bits) (age bits))) →
        Draws (λ bits. IsGreatestAge log n (f bits) (g bits) (i + 1) (spelled bits first width)) e ×
        Draws (λ bits. Bounded (MoreThan n) log (f bits) (g bits) (i + 1))
        (at_time first width (n + 1) e)
    greatest_rows e x y p q make =
        let M = Before (MoreThan n) in
        let age = age_of first width m M before.values (same_before (MoreThan n)) greatest_small
        greatest_one in
        let old : (bits : List Bool) → Is (age bits) (M bits) = is_age_of first width m M before.values (same_before (MoreThan n)) greatest_small greatest_one in
        let made = make age
        (has_ages first width m M before.values (same_before (MoreThan n)) greatest_small greatest_one before.ordered before.reduced)
        in
        let now : List Bool → Option ℕ = λ bits. since_beyond n (delta log (f bits) (g bits) i) (x bits) (y bits) (age bits) in
        let ages = ages_alike first width e
        (λ bits. since_beyond n passed (x bits) (y bits) (age bits)) now
        (λ bits. at_any_time (MoreThan n) (λ d o. since_beyond n d (x bits) (y bits) o) bits (age bits) (old bits) (λ c d. refl) (place i))
        made in
        let next : (bits : List Bool) → Is (now bits) (IsGreatestAge log n (f bits) (g bits) (i + 1)) =
        λ bits. greatest_next log (f bits) (g bits) (i + 1) i rise (omega arith) n (x bits) (y bits) (age bits) (df bits) (dg bits) (p bits) (q bits) (old bits) in
        let says = at_time-says first width (n + 1) e now ages in (
          record {
            ordered = ages.ordered;
            reduced = ages.reduced;
            values =
                draws_ages first width e now ages
                (λ bits a. IsGreatestAge log n (f bits) (g bits) (i + 1) a) next;
          },
          record {
            ordered = says.ordered;
            reduced = says.reduced;
            values =
                λ bits. subst (λ (b : Bool). IsTrue b ↔ Bounded (MoreThan n) log (f bits) (g bits) (i + 1)) (sym (says.values bits))
                (greatest_says log (f bits) (g bits) (i + 1) n (now bits) (next bits));
          },
        )
