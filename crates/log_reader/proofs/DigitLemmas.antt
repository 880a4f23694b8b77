-- How the number that digits spell goes on by one digit, and the last of some texts.
use Rattle.std.proofs.Common.{◌≡◌, ℕ, ◌+◌, ◌-◌, ◌*◌, ◌^◌, ◌<◌, ◌≤◌, List, [], ◌∷◌, ◌++◌, length, drop, get_or, refl, sym, ap, ◌∙◌, arith, Bool, true, false}
use Rattle.std.specs.Prelude.{Option, Some, None, ◌&&◌, ◌==◌, nat_le, nat_lt, if◌then◌else◌}
use Rattle.std.proofs.lemmas.List.{drop_all}
use Rattle.std.proofs.lemmas.Bool.Decides.{nat_tests}
use Rattle.qtl_syntax.specs.Tree.{Text}
use Rattle.log_reader.specs.Records.{decimal_from, if_time, with_first, time_of, split_last}
use Rattle.log_reader.proofs.Spans.{next_byte}

-- a number that has no 64 bits has none behind more digits
large : (n : ℕ) (bytes : Text) → 18446744073709551616 ≤ n → if_time (decimal_from n bytes) ≡ None
large n [] h = rw too_large refl
  where
    too_large : nat_lt n 18446744073709551616 ≡ false
    too_large = grind (arith, nat_tests)
large n (b ∷ bytes) h = by_test (nat_le 48 b && nat_le b 57) (large (10 * n + (b - 48)) bytes (omega arith))
  where
    by_test : (x : Bool) → if_time (decimal_from (10 * n + (b - 48)) bytes) ≡ None → if_time (if x then decimal_from (10 * n + (b - 48)) bytes else None) ≡ None
    by_test true k = k
    by_test false k = refl

-- behind a digit: the number with it, and none where it is no digit or too large
pub digit_more : (n m b : ℕ) (bytes : Text) → if_time (decimal_from n (b ∷ [])) ≡ Some m → if_time (decimal_from n (b ∷ bytes)) ≡ if_time (decimal_from m bytes)
digit_more n m b bytes = by_digit (nat_le 48 b && nat_le b 57)
  where
    by_size : (y : Bool) → (if y then Some (10 * n + (b - 48)) else None) ≡ Some m → if_time (decimal_from (10 * n + (b - 48)) bytes) ≡ if_time (decimal_from m bytes)
    by_size true e = let same : 10 * n + (b - 48) ≡ m = cc in ap (λ k. if_time (decimal_from k bytes)) same
    by_size false e = absurd (let never : ⊥ = cc in never)

    by_digit : (x : Bool) → if_time (if x then Some (10 * n + (b - 48)) else None) ≡ Some m → if_time (if x then decimal_from (10 * n + (b - 48)) bytes else None) ≡ if_time (decimal_from m bytes)
    by_digit true e = by_size (nat_lt (10 * n + (b - 48)) 18446744073709551616) e
    by_digit false e = absurd (let never : ⊥ = cc in never)

pub digit_ends : (n b : ℕ) (bytes : Text) → if_time (decimal_from n (b ∷ [])) ≡ None → if_time (decimal_from n (b ∷ bytes)) ≡ None
digit_ends n b bytes = by_digit (nat_le 48 b && nat_le b 57)
  where
    by_size : (y : Bool) → nat_lt (10 * n + (b - 48)) 18446744073709551616 ≡ y → (if y then Some (10 * n + (b - 48)) else None) ≡ None → if_time (decimal_from (10 * n + (b - 48)) bytes) ≡ None
    by_size true f e = absurd (let never : ⊥ = cc in never)
    by_size false f e = large (10 * n + (b - 48)) bytes (grind (arith, nat_tests))

    by_digit : (x : Bool) → if_time (if x then Some (10 * n + (b - 48)) else None) ≡ None → if_time (if x then decimal_from (10 * n + (b - 48)) bytes else None) ≡ None
    by_digit true e = by_size (nat_lt (10 * n + (b - 48)) 18446744073709551616) refl e
    by_digit false e = refl

pub fits_in : (o : Option ℕ) (n : ℕ) → if_time o ≡ Some n → n < 2 ^ 64
fits_in None n e = absurd (let never : ⊥ = cc in never)
fits_in (Some m) n e = by_size (nat_lt m 18446744073709551616) refl e
  where
    by_size : (x : Bool) → nat_lt m 18446744073709551616 ≡ x → (if x then Some m else None) ≡ Some n → n < 2 ^ 64
    by_size true f e = let same : m ≡ n = cc in grind (arith, nat_tests)
    by_size false f e = absurd (let never : ⊥ = cc in never)

-- one digit further
pub digit_fits : (n b m : ℕ) → if_time (decimal_from n (b ∷ [])) ≡ Some m → m < 2 ^ 64
digit_fits n b m e = fits_in (decimal_from n (b ∷ [])) m e

pub time_goes : (text : Text) (time i next : ℕ) → if_time (decimal_from time (drop i text)) ≡ if_time (decimal_from 0 text) → i < length text → if_time (decimal_from time (get_or text i 0 ∷ [])) ≡ Some next →
    if_time (decimal_from next (drop (i + 1) text)) ≡ if_time (decimal_from 0 text)
time_goes text time i next so_far here e = sym (digit_more time next (get_or text i 0) (drop (i + 1) text) e) ∙ ap (λ l. if_time (decimal_from time l)) (sym (next_byte i text here)) ∙ so_far

-- digits from a place on, where what comes from there on spells the whole time
time_whole : (text : Text) → (length text == 0) ≡ false → time_of text ≡ if_time (decimal_from 0 text)
time_whole [] e = absurd (let never : ⊥ = cc in never)
time_whole (b ∷ text) e = refl

module _ (text : Text) (some : (length text == 0) ≡ false) (time i : ℕ) (so_far : if_time (decimal_from time (drop i text)) ≡ if_time (decimal_from 0 text)) where
  pub time_ends : length text ≤ i → time < 2 ^ 64 → Some time ≡ time_of text
  time_ends none fits = sym (rw fits_so refl) ∙ ap (λ l. if_time (decimal_from time l)) (sym (drop_all i text none)) ∙ so_far ∙ sym (time_whole text some)
    where
      fits_so : nat_lt time 18446744073709551616 ≡ true
      fits_so = grind (arith, nat_tests)

  pub time_fails : i < length text → if_time (decimal_from time (get_or text i 0 ∷ [])) ≡ None → None ≡ time_of text
  time_fails here e = sym (digit_ends time (get_or text i 0) (drop (i + 1) text) e) ∙ ap (λ l. if_time (decimal_from time l)) (sym (next_byte i text here)) ∙ so_far ∙ sym (time_whole text some)

-- the last of some texts, and those before it
pub last_is : (texts : List Text) (t : Text) → split_last (texts ++ t ∷ []) ≡ Some (texts, t)
last_is [] t = refl
last_is (u ∷ []) t = refl
last_is (u ∷ v ∷ texts) t = ap (with_first u) (last_is (v ∷ texts) t)
