-- The bytes between two places of a buffer.
use Rattle.std.proofs.Common.{◌≡◌, ℕ, ◌+◌, ◌-◌, ◌<◌, ◌≤◌, [], ◌∷◌, ◌++◌, length, take, drop, get_or, refl, sym, ap, ◌∙◌, arith, take-append-drop, length-drop, drop-cons, add-one}
use Rattle.std.proofs.Math.Seq.{take-add}
use Rattle.std.proofs.lemmas.List.{drop-drop, take_more, length-take-le, get_or-drop}
use Rattle.qtl_syntax.specs.Tree.{Text}
use Rattle.log_reader.specs.State.{span}

pub split_rest : (m n : ℕ) (bytes : Text) → m ≤ n → drop m bytes ≡ span m n bytes ++ drop n bytes
split_rest m n bytes h =
    sym (take-append-drop (n - m) (drop m bytes)) ∙ ap (λ l. span m n bytes ++ l) (drop-drop (n - m) m bytes ∙ ap (λ k. drop k bytes) (omega arith))

pub span_more : (from i : ℕ) (bytes : Text) → from ≤ i → i < length bytes → span from (i + 1) bytes ≡ span from i bytes ++ get_or bytes i 0 ∷ []
span_more from i bytes h k =
    let next : i + 1 - from ≡ i - from + 1 = omega arith in
    let whole : from + (i - from) ≡ i = omega arith in
    let within : i - from < length (drop from bytes) = simp length-drop (omega arith) in
    ap (λ n. take n (drop from bytes)) next ∙ take_more (drop from bytes) (i - from) 0 within
    ∙ ap (λ b. span from i bytes ++ b ∷ []) (get_or-drop from bytes (i - from) 0 ∙ ap (λ j. get_or bytes j 0) whole)

pub span_join : (from m n : ℕ) (bytes : Text) → from ≤ m → m ≤ n → span from n bytes ≡ span from m bytes ++ span m n bytes
span_join from m n bytes h k =
    let sum : n - from ≡ (m - from) + (n - m) = omega arith in
    let whole : from + (m - from) ≡ m = omega arith in
    ap (λ j. take j (drop from bytes)) sum ∙ take-add (m - from) (n - m) (drop from bytes)
    ∙ ap (λ l. span from m bytes ++ take (n - m) l) (drop-drop (m - from) from bytes ∙ ap (λ j. drop j bytes) whole)

pub span_length : (m n : ℕ) (bytes : Text) → m ≤ n → n ≤ length bytes → length (span m n bytes) ≡ n - m
span_length m n bytes h k = length-take-le (n - m) (drop m bytes) (simp length-drop (omega arith))

-- the byte at a place, and those behind it
pub next_byte : (i : ℕ) (bytes : Text) → i < length bytes → drop i bytes ≡ get_or bytes i 0 ∷ drop (i + 1) bytes
next_byte i bytes h = rw (add-one, drop-cons bytes i 0 h) refl
