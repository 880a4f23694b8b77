-- How the text of a field is read off its bytes.
use Rattle.std.proofs.Common.{◌≡◌, ℕ, ◌+◌, ◌<◌, ◌≤◌, [], ◌∷◌, ◌++◌, length, take, drop, get_or, refl, sym, ap, ◌∙◌, subst, arith, Bool, true, false, append_assoc, append-nil, take-append-drop, length-drop, suc, ◌⊎◌, inl, inr}
use Rattle.std.proofs.lemmas.List.{drop-drop, take_all, drop_all}
use Rattle.std.proofs.lemmas.Bool.{cases_lt}
use Rattle.std.specs.Prelude.{Option, Some, None, All, IsSome, ◌&&◌, not, ◌==◌, if◌then◌else◌}
use Rattle.std.proofs.lemmas.Bool.Decides.{nat_tests}
use Rattle.qtl_syntax.specs.Tree.{Text}
use Rattle.log_reader.specs.Fields.{drop_blanks, trimmed, with_byte, quoted, quoted_form, Bare, form_behind_blanks, text_in}
use Rattle.log_reader.specs.Quotes.{is_quote, begins_with_quote, closes, quoted_text, with_text}
use Rattle.log_reader.specs.Places.{place_in_quotes, place_behind, place_behind_blanks, place_of, is_inside}
use Rattle.log_reader.specs.declared.place.Place.{Place}
use Rattle.log_reader.specs.declared.place.Place.TheVariants.{Before, Plain, Inside, AtQuote, Behind}
use Rattle.log_reader.proofs.Spans.{next_byte}

-- a byte that is no quote spells itself
pub quoted_byte : (b : ℕ) (bytes : Text) → (b == 34) ≡ false → quoted (b ∷ bytes) ≡ with_byte b (quoted bytes)
quoted_byte b [] e = rw e refl
quoted_byte b (c ∷ bytes) e = rw e refl

-- a doubled quote spells a quote
pub quoted_double : (bytes : Text) → begins_with_quote bytes ≡ true → quoted (34 ∷ bytes) ≡ with_byte 34 (quoted (drop 1 bytes))
quoted_double [] e = let h : false ≡ true = e in absurd (let never : ⊥ = cc in never)
quoted_double (c ∷ bytes) e = let h : (c == 34) ≡ true = e in rw h refl

-- another quote closes
pub quoted_end : (bytes : Text) → begins_with_quote bytes ≡ false → quoted (34 ∷ bytes) ≡ Some ([], bytes)
quoted_end [] e = refl
quoted_end (c ∷ bytes) e = let h : (c == 34) ≡ false = e in rw h refl

with_text_byte : (text : Text) (b : ℕ) (o : Option (Text × Text)) → with_text text (with_byte b o) ≡ with_text (text ++ b ∷ []) o
with_text_byte text b None = refl
with_text_byte text b (Some p) = ap (λ (t : Text). Some (t, p.1)) (sym (append_assoc text (b ∷ []) p.0))

all_head : (b : ℕ) (bytes : Text) → All (λ x. is_quote x ≡ false) (b ∷ bytes) → (b == 34) ≡ false
all_head b bytes all = all 0 0 (omega arith)

all_tail : (b : ℕ) (bytes : Text) → All (λ x. is_quote x ≡ false) (b ∷ bytes) → All (λ x. is_quote x ≡ false) bytes
all_tail b bytes all = λ k d h. all (suc k) d (omega arith)

-- bytes without a quote, before the closing one
pub quoted_plain : (front rest : Text) → All (λ b. is_quote b ≡ false) front → begins_with_quote rest ≡ false → quoted (front ++ 34 ∷ rest) ≡ Some (front, rest)
quoted_plain [] rest all e = quoted_end rest e
quoted_plain (b ∷ front) rest all e = quoted_byte b (front ++ 34 ∷ rest) (all_head b front all) ∙ ap (with_byte b) (quoted_plain front rest (all_tail b front all) e)

-- no quote at all
pub quoted_none : (bytes : Text) → All (λ b. is_quote b ≡ false) bytes → quoted bytes ≡ None
quoted_none [] all = refl
quoted_none (b ∷ bytes) all = quoted_byte b bytes (all_head b bytes all) ∙ ap (with_byte b) (quoted_none bytes (all_tail b bytes all))

-- the text up to a closing quote at a place
pub quoted_at : (bytes : Text) (n : ℕ) → n ≤ length bytes → All (λ b. is_quote b ≡ false) (take n bytes) → (n < length bytes → get_or bytes n 0 ≡ 34) → begins_with_quote (drop (n + 1) bytes) ≡ false → IsSome (quoted bytes) → take n bytes ≡ quoted_text (quoted bytes)
quoted_at bytes n within all quote last some = by_place (cases_lt n (length bytes))
  where
    at_quote : n < length bytes → quoted bytes ≡ Some (take n bytes, drop (n + 1) bytes)
    at_quote h =
        ap quoted (sym (take-append-drop n bytes) ∙ ap (λ l. take n bytes ++ l) (next_byte n bytes h ∙ ap (λ b. b ∷ drop (n + 1) bytes) (quote h)))
        ∙ quoted_plain (take n bytes) (drop (n + 1) bytes) all last

    none : length bytes ≤ n → quoted bytes ≡ None
    none h = quoted_none bytes (subst (λ l. All (λ b. is_quote b ≡ false) l) (take_all n bytes h) all)

    by_place : (n < length bytes) ⊎ (length bytes ≤ n) → take n bytes ≡ quoted_text (quoted bytes)
    by_place (inl h) = sym (ap quoted_text (at_quote h))
    by_place (inr h) = let e : false ≡ true = subst IsSome (none h) some in absurd (let never : ⊥ = cc in never)

-- one byte more of the text
pub text_more : (text bytes : Text) (i : ℕ) → i < length bytes → closes bytes i ≡ false →
    with_text (text ++ get_or bytes i 0 ∷ []) (quoted (drop (i + (if get_or bytes i 0 == 34 then 2 else 1)) bytes)) ≡ with_text text (quoted (drop i bytes))
text_more text bytes i h test = sym (ap (λ l. with_text text (quoted l)) (next_byte i bytes h) ∙ by_tests (get_or bytes i 0 == 34) (begins_with_quote (drop (i + 1) bytes)) refl refl test)
  where
    by_tests : (x y : Bool) → (get_or bytes i 0 == 34) ≡ x → begins_with_quote (drop (i + 1) bytes) ≡ y → (x && not y) ≡ false →
        with_text text (quoted (get_or bytes i 0 ∷ drop (i + 1) bytes)) ≡ with_text (text ++ get_or bytes i 0 ∷ []) (quoted (drop (i + (if x then 2 else 1)) bytes))
    by_tests false y e f g = ap (with_text text) (quoted_byte (get_or bytes i 0) (drop (i + 1) bytes) e) ∙ with_text_byte text (get_or bytes i 0) (quoted (drop (i + 1) bytes))
    by_tests true true e f g =
        let q : get_or bytes i 0 ≡ 34 = grind (arith, nat_tests) in
        rw q (ap (with_text text) (quoted_double (drop (i + 1) bytes) f) ∙ with_text_byte text 34 (quoted (drop 1 (drop (i + 1) bytes)))
        ∙ ap (λ l. with_text (text ++ 34 ∷ []) (quoted l)) (drop-drop 1 (i + 1) bytes ∙ ap (λ k. drop k bytes) (omega arith)))
    by_tests true false e f g = let no_test : true ≡ false = g in absurd (let never : ⊥ = cc in never)

pub text_more_at : (text text1 bytes : Text) (i n : ℕ) → i < length bytes → closes bytes i ≡ false → text1 ≡ text ++ get_or bytes i 0 ∷ [] → n ≡ (if get_or bytes i 0 == 34 then 2 else 1) →
    with_text text1 (quoted (drop (i + n) bytes)) ≡ with_text text (quoted (drop i bytes))
text_more_at text text1 bytes i n h test longer count =
    ap (λ t. with_text t (quoted (drop (i + n) bytes))) longer
    ∙ ap (λ k. with_text (text ++ get_or bytes i 0 ∷ []) (quoted (drop (i + k) bytes))) count
    ∙ text_more text bytes i h test

-- the closing quote
pub text_ends : (text bytes : Text) (i : ℕ) → i < length bytes → closes bytes i ≡ true → with_text text (quoted (drop i bytes)) ≡ quoted bytes → text ≡ quoted_text (quoted bytes)
text_ends text bytes i h test all = by_tests (get_or bytes i 0 == 34) (begins_with_quote (drop (i + 1) bytes)) refl refl test
  where
    by_tests : (x y : Bool) → (get_or bytes i 0 == 34) ≡ x → begins_with_quote (drop (i + 1) bytes) ≡ y → (x && not y) ≡ true → text ≡ quoted_text (quoted bytes)
    by_tests true false e f g =
        let q : get_or bytes i 0 ≡ 34 = grind (arith, nat_tests) in
        let here : quoted (drop i bytes) ≡ Some ([], drop (i + 1) bytes) = ap quoted (next_byte i bytes h ∙ ap (λ b. b ∷ drop (i + 1) bytes) q) ∙ quoted_end (drop (i + 1) bytes) f in
        sym (ap quoted_text (sym all ∙ ap (with_text text) here) ∙ append-nil text)
    by_tests true true e f g = let no_test : false ≡ true = g in absurd (let never : ⊥ = cc in never)
    by_tests false y e f g = let no_test : false ≡ true = g in absurd (let never : ⊥ = cc in never)

-- no closing quote comes
pub text_never : (text bytes : Text) (i : ℕ) → length bytes ≤ i → with_text text (quoted (drop i bytes)) ≡ quoted bytes → IsSome (quoted bytes) → ⊥
text_never text bytes i h all some =
    let none : quoted bytes ≡ None = sym all ∙ ap (λ l. with_text text (quoted l)) (drop_all i bytes h) in
    let e : false ≡ true = subst IsSome none some in
    cc

-- fields by their place

in_quotes_found : (o : Option (Text × Text)) → (is_inside (place_in_quotes o) ≡ false) → IsSome o
in_quotes_found None e = let no_place : true ≡ false = e in absurd (let never : ⊥ = cc in never)
in_quotes_found (Some p) e = refl

abbrev pub is_quoted : Place → Bool
is_quoted Before = false
is_quoted Plain = false
is_quoted Inside = true
is_quoted AtQuote = true
is_quoted Behind = true

-- a closed quoted field, from behind its blanks on
pub record IsQuoted (front : Text) : Type 0 where
  pub begins : front ≡ 34 ∷ drop 1 front
  pub some : IsSome (quoted (drop 1 front))
  pub text : (field : Text) → text_in (form_behind_blanks front) field ≡ quoted_text (quoted (drop 1 front))

form_text : (o : Option (Text × Text)) (field : Text) → text_in (quoted_form o) field ≡ quoted_text o
form_text None field = refl
form_text (Some p) field = refl

pub quoted_front : (front : Text) → is_quoted (place_behind_blanks front) ≡ true → is_inside (place_behind_blanks front) ≡ false → IsQuoted front
quoted_front [] q i = let no_place : false ≡ true = q in absurd (let never : ⊥ = cc in never)
quoted_front (c ∷ rest) q i = by_test (c == 34) refl q i
  where
    is_34 : (c == 34) ≡ true → c ≡ 34
    is_34 e = grind (arith, nat_tests)

    by_test : (x : Bool) → (c == 34) ≡ x → is_quoted (if x then place_in_quotes (quoted rest) else Plain) ≡ true → is_inside (if x then place_in_quotes (quoted rest) else Plain) ≡ false → IsQuoted (c ∷ rest)
    by_test true e q i = record {
      begins = ap (λ b. b ∷ rest) (is_34 e);
      some = in_quotes_found (quoted rest) i;
      text = λ field. ap (λ x. text_in (if x then quoted_form (quoted rest) else Bare) field) e ∙ form_text (quoted rest) field;
    }
    by_test false e q i = let no_place : false ≡ true = q in absurd (let never : ⊥ = cc in never)

pub bare_front : (front field : Text) → is_quoted (place_behind_blanks front) ≡ false → text_in (form_behind_blanks front) field ≡ trimmed field
bare_front [] field q = refl
bare_front (c ∷ rest) field q = by_test (c == 34) q
  where
    never_bare : (o : Option (Text × Text)) → is_quoted (place_in_quotes o) ≡ true
    never_bare None = refl
    never_bare (Some p) = behind p.1
      where
        behind : (l : Text) → is_quoted (place_behind l) ≡ true
        behind [] = refl
        behind (b ∷ l) = refl

    by_test : (x : Bool) → is_quoted (if x then place_in_quotes (quoted rest) else Plain) ≡ false → text_in (if x then quoted_form (quoted rest) else Bare) field ≡ trimmed field
    by_test true e = let no_place : true ≡ false = sym (never_bare (quoted rest)) ∙ e in absurd (let never : ⊥ = cc in never)
    by_test false e = refl

pub no_quote : (b : ℕ) → (b ≡ 34 → ⊥) → is_quote b ≡ false
no_quote b h = grind (arith, nat_tests)

pub quoted_place : (p : Place) → (p ≡ AtQuote) ⊎ (p ≡ Behind) → is_quoted p ≡ true
quoted_place p (inl e) = ap is_quoted e
quoted_place p (inr e) = ap is_quoted e

pub bare_place : (p : Place) → (p ≡ Before) ⊎ ((p ≡ Plain) ⊎ (p ≡ Inside)) → is_inside p ≡ false → is_quoted p ≡ false
bare_place p (inl e) i = ap is_quoted e
bare_place p (inr (inl e)) i = ap is_quoted e
bare_place p (inr (inr e)) i = let no_place : true ≡ false = sym (ap is_inside e) ∙ i in absurd (let never : ⊥ = cc in never)

-- so it is behind the blanks of a field
pub quoted_here : (field : Text) (place : Place) → place_of field ≡ place → (place ≡ AtQuote) ⊎ (place ≡ Behind) → is_inside place ≡ false → IsQuoted (drop_blanks field)
quoted_here field place at is out = quoted_front (drop_blanks field) (ap is_quoted at ∙ quoted_place place is) (ap is_inside at ∙ out)

pub front_within : (field : Text) (n : ℕ) → drop n field ≡ drop_blanks field → IsQuoted (drop_blanks field) → n + 1 ≤ length field
front_within field n rest q = let l = ap length (rest ∙ q.begins) in omega (arith, length-drop n field)

pub behind_quote : (field : Text) (n : ℕ) → drop n field ≡ drop_blanks field → drop (n + 1) field ≡ drop 1 (drop_blanks field)
behind_quote field n rest = sym (drop-drop 1 n field) ∙ ap (drop 1) rest
