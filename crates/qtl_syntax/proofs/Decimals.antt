-- The decimal digits of a number are a number of the language, and are read back as it.
use Rattle.std.proofs.Common.{◌≡◌, ℕ, ◌+◌, ◌*◌, ◌-◌, ◌<◌, ◌≤◌, List, [], ◌∷◌, length, true, refl, ap, arith}
use Rattle.std.specs.Prelude.{◌^◌, decimal}
use Rattle.std.specs.List.{list_all}
use Rattle.std.proofs.lemmas.Bool.Decides.{nat_tests}
use Rattle.std.proofs.lemmas.Str.Parse.{IsDigitsTest, FoldsDigits, IsNumeralModel, numerals_by_fold}
use Rattle.std.proofs.lemmas.Fmt.{digits_decimal, digits_value-decimal, decimal_nonempty}
use Rattle.qtl_syntax.specs.Cuts.{is_digit, is_number}
use Rattle.qtl_syntax.specs.Grammar.{decimal_from}
use Rattle.qtl_syntax.proofs.Longest.{and_parts, both}

digit_low : (c : ℕ) → is_digit c ≡ true → 48 ≤ c
digit_low c e = grind (arith, nat_tests)

digit_high : (c : ℕ) → is_digit c ≡ true → c ≤ 57
digit_high c e = grind (arith, nat_tests)

digit_in : (c : ℕ) → 48 ≤ c → c ≤ 57 → is_digit c ≡ true
digit_in c l h = grind (arith, nat_tests)

digits : IsDigitsTest (λ ds. list_all is_digit ds ≡ true)
digits = record {
  empty = refl;
  parts = λ c cs e. let q = and_parts (is_digit c) (list_all is_digit cs) e in ((digit_low c q.0, digit_high c q.0), q.1);
  more = λ c cs k e. both (is_digit c) (list_all is_digit cs) (digit_in c k.0 k.1) e;
}

turned : (n k : ℕ) → 10 * n + k ≡ n * 10 + k
turned n k = omega arith

folds : FoldsDigits decimal_from
folds = record { empty = λ n. refl; more = λ n c cs k. ap (λ m. decimal_from m cs) (turned n (c - 48)) }

model : IsNumeralModel (λ ds. list_all is_digit ds ≡ true) (decimal_from 0)
model = numerals_by_fold (λ ds. list_all is_digit ds ≡ true) digits decimal_from folds

small : (n : ℕ) → n ≤ 1048574 → n < 2 ^ 64
small n h = omega arith

pub decimal_reads : (n : ℕ) → n ≤ 1048574 → decimal_from 0 (decimal n) ≡ n
decimal_reads n h = digits_value-decimal model n (small n h)

number_of : (ds : List ℕ) → 0 < length ds → list_all is_digit ds ≡ true → is_number ds ≡ true
number_of [] l e = absurd (omega arith)
number_of (d ∷ ds) l e = e

pub decimal_is_number : (n : ℕ) → n ≤ 1048574 → is_number (decimal n) ≡ true
decimal_is_number n h = number_of (decimal n) (decimal_nonempty n (small n h)) (digits_decimal model n (small n h))
