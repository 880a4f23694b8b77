-- How the place in a field goes on by one byte.
use Rattle.std.proofs.Common.{◌≡◌, ℕ, [], ◌∷◌, ◌++◌, refl, sym, ap, ◌∙◌, arith, Bool, true, false}
use Rattle.std.specs.Prelude.{Option, Some, None, ◌&&◌, not, ◌==◌, if◌then◌else◌}
use Rattle.std.proofs.lemmas.Bool.Decides.{nat_tests}
use Rattle.qtl_syntax.specs.Tree.{Text}
use Rattle.log_reader.specs.Fields.{is_blank, drop_blanks, with_byte, quoted, quoted_form, Form, Bare, Closed, form_behind_blanks, form_of, is_open}
use Rattle.log_reader.specs.Faults.{is_misplaced}
use Rattle.log_reader.specs.Places.{place_in_quotes, place_behind, place_behind_blanks, place_of, next_place, is_inside, is_in_field}
use Rattle.log_reader.specs.declared.place.Place.{Place}
use Rattle.log_reader.specs.declared.place.Place.TheVariants.{Before, Plain, Inside, AtQuote, Behind}

with_same : (b : ℕ) (o : Option (Text × Text)) → place_in_quotes (with_byte b o) ≡ place_in_quotes o
with_same b None = refl
with_same b (Some p) = refl

-- in quotes
pub quoted_more : (q : Text) (b : ℕ) → place_in_quotes (quoted (q ++ b ∷ [])) ≡ next_place (place_in_quotes (quoted q)) b
quoted_more [] b = by_test (b == 34)
  where
    by_test : (x : Bool) → place_in_quotes (if x then Some ([], []) else None) ≡ (if x then AtQuote else Inside)
    by_test true = refl
    by_test false = refl
quoted_more (a ∷ []) b = by_test (a == 34) (b == 34) refl
  where
    by_test : (x y : Bool) → (b == 34) ≡ y →
        place_in_quotes (if x then (if b == 34 then with_byte 34 None else Some ([], b ∷ [])) else with_byte a (if b == 34 then Some ([], []) else None)) ≡
        next_place (place_in_quotes (if x then Some ([], []) else None)) b
    by_test true true e = rw e refl
    by_test true false e = rw e refl
    by_test false true e = rw e refl
    by_test false false e = rw e refl
quoted_more (a ∷ c ∷ q) b = by_test (a == 34) (c == 34) (quoted_more q b) (quoted_more (c ∷ q) b)
  where
    by_test : (x y : Bool) →
        place_in_quotes (quoted (q ++ b ∷ [])) ≡ next_place (place_in_quotes (quoted q)) b →
        place_in_quotes (quoted (c ∷ (q ++ b ∷ []))) ≡ next_place (place_in_quotes (quoted (c ∷ q))) b →
        place_in_quotes (if x then (if y then with_byte 34 (quoted (q ++ b ∷ [])) else Some ([], c ∷ (q ++ b ∷ []))) else with_byte a (quoted (c ∷ (q ++ b ∷ [])))) ≡
        next_place (place_in_quotes (if x then (if y then with_byte 34 (quoted q) else Some ([], c ∷ q)) else with_byte a (quoted (c ∷ q)))) b
    by_test true true doubled one = with_same 34 (quoted (q ++ b ∷ [])) ∙ doubled ∙ ap (λ p. next_place p b) (sym (with_same 34 (quoted q)))
    by_test true false doubled one = refl
    by_test false y doubled one = with_same a (quoted (c ∷ (q ++ b ∷ []))) ∙ one ∙ ap (λ p. next_place p b) (sym (with_same a (quoted (c ∷ q))))

behind_more : (field : Text) (b : ℕ) → drop_blanks field ≡ [] → drop_blanks (field ++ b ∷ []) ≡ (if is_blank b then [] else b ∷ [])
behind_more [] b e = refl
behind_more (a ∷ field) b e = by_test (is_blank a) (behind_more field b) e
  where
    by_test : (x : Bool) → (drop_blanks field ≡ [] → drop_blanks (field ++ b ∷ []) ≡ (if is_blank b then [] else b ∷ [])) → (if x then drop_blanks field else a ∷ field) ≡ [] → (if x then drop_blanks (field ++ b ∷ []) else a ∷ (field ++ b ∷ [])) ≡ (if is_blank b then [] else b ∷ [])
    by_test true h f = h f
    by_test false h f = let no : a ∷ field ≡ [] = f in absurd (let never : ⊥ = cc in never)

later_more : (field : Text) (b c : ℕ) (rest : Text) → drop_blanks field ≡ c ∷ rest → drop_blanks (field ++ b ∷ []) ≡ c ∷ (rest ++ b ∷ [])
later_more [] b c rest e = absurd (let no : [] ≡ c ∷ rest = e in let never : ⊥ = cc in never)
later_more (a ∷ field) b c rest e = by_test (is_blank a) (later_more field b c rest) e
  where
    by_test : (x : Bool) → (drop_blanks field ≡ c ∷ rest → drop_blanks (field ++ b ∷ []) ≡ c ∷ (rest ++ b ∷ [])) → (if x then drop_blanks field else a ∷ field) ≡ c ∷ rest → (if x then drop_blanks (field ++ b ∷ []) else a ∷ (field ++ b ∷ [])) ≡ c ∷ (rest ++ b ∷ [])
    by_test true h f = h f
    by_test false h f = let same : a ∷ field ≡ c ∷ rest = f in ap (λ l. l ++ b ∷ []) same

-- the place goes on by the byte
pub place_more : (field : Text) (b : ℕ) → place_of (field ++ b ∷ []) ≡ next_place (place_of field) b
place_more field b = by_front (drop_blanks field) refl
  where
    first : (x y : Bool) → (b == 34) ≡ x → is_blank b ≡ y → place_behind_blanks (if y then [] else b ∷ []) ≡ (if x then Inside else (if y then Before else Plain))
    first true true e f = absurd (grind (arith, nat_tests))
    first true false e f = rw e refl
    first false true e f = refl
    first false false e f = rw e refl

    later : (c : ℕ) (rest : Text) → place_behind_blanks (c ∷ (rest ++ b ∷ [])) ≡ next_place (place_behind_blanks (c ∷ rest)) b
    later c rest = by_test (c == 34)
      where
        by_test : (x : Bool) → (if x then place_in_quotes (quoted (rest ++ b ∷ [])) else Plain) ≡ next_place (if x then place_in_quotes (quoted rest) else Plain) b
        by_test true = quoted_more rest b
        by_test false = refl

    by_front : (l : Text) → drop_blanks field ≡ l → place_of (field ++ b ∷ []) ≡ next_place (place_of field) b
    by_front [] e = rw (behind_more field b e, e) (first (b == 34) (is_blank b) refl refl)
    by_front (c ∷ rest) e = rw (later_more field b c rest e, e) (later c rest)

-- what the place says of the form
pub record Agrees (form : Form) (place : Place) : Type 0 where
  pub inside : is_open form ≡ is_inside place
  pub stays : (b : ℕ) → is_in_field place b ≡ true → is_misplaced form b ≡ false
  pub leaves : (b : ℕ) → (b == 44) ≡ false → (b == 10) ≡ false → is_in_field place b ≡ false → is_misplaced form b ≡ true

open_place : (o : Option (Text × Text)) → Agrees (quoted_form o) (place_in_quotes o)
open_place None = record { inside = refl; stays = λ b h. refl; leaves = λ b e f h. let no : true ≡ false = h in absurd (let never : ⊥ = cc in never) }
open_place (Some p) = behind p.1
  where
    behind : (l : Text) → Agrees (Closed p.0 l) (place_behind l)
    behind [] = record { inside = refl; stays = λ b h. grind (arith, nat_tests); leaves = λ b e f h. grind (arith, nat_tests) }
    behind (c ∷ l) = record { inside = refl; stays = λ b h. grind (arith, nat_tests); leaves = λ b e f h. grind (arith, nat_tests) }

bare_leaves : (b : ℕ) → (b == 44) ≡ false → (b == 10) ≡ false → (not (b == 44) && not (b == 10)) ≡ false → false ≡ true
bare_leaves b e f h = let no : true ≡ false = (rw (e, f) at h) in cc

pub agrees : (field : Text) → Agrees (form_of field) (place_of field)
agrees field = by_front (drop_blanks field)
  where
    by_front : (l : Text) → Agrees (form_behind_blanks l) (place_behind_blanks l)
    by_front [] = record { inside = refl; stays = λ b h. refl; leaves = bare_leaves }
    by_front (c ∷ rest) = by_test (c == 34)
      where
        by_test : (x : Bool) → Agrees (if x then quoted_form (quoted rest) else Bare) (if x then place_in_quotes (quoted rest) else Plain)
        by_test true = open_place (quoted rest)
        by_test false = record { inside = refl; stays = λ b h. refl; leaves = bare_leaves }

-- a byte of the field is a comma or a line feed only in quotes
pub in_field : (place : Place) (b : ℕ) → is_in_field place b ≡ true → is_inside place ≡ false → ((b == 44) ≡ false) × ((b == 10) ≡ false)
in_field Before b h e = (grind (arith, nat_tests), grind (arith, nat_tests))
in_field Plain b h e = (grind (arith, nat_tests), grind (arith, nat_tests))
in_field Inside b h e = let no : true ≡ false = e in absurd (let never : ⊥ = cc in never)
in_field AtQuote b h e = (grind (arith, nat_tests), grind (arith, nat_tests))
in_field Behind b h e = (grind (arith, nat_tests), grind (arith, nat_tests))

-- every byte in quotes is the field's
pub out_of_field : (place : Place) (b : ℕ) → is_in_field place b ≡ false → is_inside place ≡ false
out_of_field Before b h = refl
out_of_field Plain b h = refl
out_of_field Inside b h = let no : true ≡ false = h in absurd (let never : ⊥ = cc in never)
out_of_field AtQuote b h = refl
out_of_field Behind b h = refl
