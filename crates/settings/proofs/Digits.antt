-- Texts of digits, and the numbers that they write.
use Rattle.std.proofs.Common.{get_or, IsTrue, ◌↔◌, ◌≡◌, ◌∙◌, ℕ, ◌<◌, ◌^◌, Bool, true, false, List, length, Some, None, Result, Ok, Err, refl, sym, arith}
use Rattle.std.specs.Int.{IsInRange}
use Rattle.std.specs.Result.{result_ok}
use Rattle.std.specs.Str.{all_ascii_digits}
use Rattle.std.specs.Str.Parse.{ParsesUnsigned, digits_value}
use Rattle.std.proofs.lemmas.Grind.{common_steps}
use Rattle.std.proofs.lemmas.Str.Parse.{IsNumeralModel, numerals_by_value, parse_digits, tells_all_ascii_digits, tells_by_index}
use Rattle.settings.specs.Numbers.{number_within}

pub own : IsNumeralModel (λ ds. all_ascii_digits ds ≡ true) (digits_value 10)
own = numerals_by_value _ tells_all_ascii_digits

-- what `parse` refuses is no number within limits
pub parse_refuses : {E : Type 0} (least most : ℕ) (t : List ℕ) (r : Result ℕ E) → ParsesUnsigned 64 10 t r → all_ascii_digits t ≡ true → result_ok r ≡ None → most < 2 ^ 64
    → number_within least most t ≡ None
parse_refuses {E} least most t (Ok x) h digits none fits = cc
parse_refuses {E} least most t (Err e) h digits none fits =
    let parsed = parse_digits own {E = E} 64 t (Err e) h digits in
    grind (arith, common_steps, parsed)

-- what it reads is the number that the digits write
pub parse_reads : {E : Type 0} (t : List ℕ) (r : Result ℕ E) (x : ℕ) → ParsesUnsigned 64 10 t r → all_ascii_digits t ≡ true → result_ok r ≡ Some x
    → (digits_value 10 t ≡ x) × (0 < length t)
parse_reads {E} t (Ok y) x h digits some =
    let parsed = parse_digits own {E = E} 64 t (Ok y) h digits in
    let same : y ≡ x = cc in
    (sym parsed.1 ∙ same, parsed.0.0)
parse_reads {E} t (Err e) x h digits some = cc

digits_by_index : IsNumeralModel (λ ds. (i : ℕ) → i < length ds → IsInRange 48 57 (get_or ds i 0)) (digits_value 10)
digits_by_index = numerals_by_value _ tells_by_index

-- the test of each byte is the test of the text
pub digits_alone : (t : List ℕ) (b : Bool) → (IsTrue b ↔ ((i : ℕ) → i < length t → IsInRange 48 57 (get_or t i 0))) → b ≡ all_ascii_digits t
digits_alone t b each = go b (all_ascii_digits t) each refl
  where
    go : (b d : Bool) → (IsTrue b ↔ ((i : ℕ) → i < length t → IsInRange 48 57 (get_or t i 0))) → all_ascii_digits t ≡ d → b ≡ d
    go true true each is = refl
    go false false each is = refl
    go true false each is = sym (own.from t (digits_by_index.to t (each.0 refl))) ∙ is
    go false true each is = each.1 (digits_by_index.from t (own.to t is))
