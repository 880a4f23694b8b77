-- The lines that show a witness, part by part.
use Rattle.std.proofs.Common.{◌≡◌, ℕ, ◌+◌, ◌<◌, List, [], ◌∷◌, ◌++◌, refl, sym, ap, ◌∙◌, append_assoc, append-nil, take, drop, get_or, length, take-append-drop}
use Rattle.std.specs.Prelude.{codes, decimal}
use Rattle.std.proofs.lemmas.List.{take_more}
use Rattle.qtl_syntax.specs.Tree.{Text}
use Rattle.report.specs.declared.shown.Shown.{Shown}
use Rattle.report.specs.Lines.{value_text, violation_line, witness_text}

-- what stands before a value
abbrev pub before_value : Text → Text
before_value name = codes " " ++ (name ++ codes "=")

-- a variable's name, and then its value
pub shown_is : (s : Shown) → before_value s.name ++ value_text s.value ≡ witness_text (s ∷ [])
shown_is s =
    let value = value_text s.value in
    ap (λ (l : Text). 32 ∷ l) (append_assoc s.name (61 ∷ []) value ∙ ap (λ (l : Text). s.name ++ 61 ∷ l) (sym (append-nil value)))

regrouped : (name value shown more : Text) → 32 ∷ (name ++ 61 ∷ (value ++ (shown ++ more))) ≡ (32 ∷ (name ++ 61 ∷ (value ++ shown))) ++ more
regrouped name value shown more = sym (simp append_assoc)

-- some variables, and then others
pub witness_append : (xs ys : List Shown) → witness_text (xs ++ ys) ≡ witness_text xs ++ witness_text ys
witness_append [] ys = refl
witness_append (s ∷ xs) ys =
    ap (λ (l : Text). 32 ∷ (s.name ++ 61 ∷ (value_text s.value ++ l))) (witness_append xs ys) ∙ regrouped s.name (value_text s.value) (witness_text xs) (witness_text ys)

-- one variable more
pub witness_more : (xs : List Shown) (i : ℕ) (s : Shown) → i < length xs → s ≡ get_or xs i s → witness_text (take (i + 1) xs) ≡ witness_text (take i xs) ++ witness_text (s ∷ [])
witness_more xs i s h e = ap witness_text (take_more xs i s h ∙ ap (λ x. take i xs ++ x ∷ []) (sym e)) ∙ witness_append (take i xs) (s ∷ [])

-- the variables before one, this one, and those behind it
pub witness_split : (xs : List Shown) (i : ℕ) (s : Shown) → i < length xs → s ≡ get_or xs i s →
    (witness_text (take i xs) ++ witness_text (s ∷ [])) ++ witness_text (drop (i + 1) xs) ≡ witness_text xs
witness_split xs i s h e =
    ap (λ (l : Text). l ++ witness_text (drop (i + 1) xs)) (sym (witness_more xs i s h e)) ∙ sym (witness_append (take (i + 1) xs) (drop (i + 1) xs)) ∙ ap witness_text (take-append-drop (i + 1) xs)

four_parts : (a b c d more : Text) → (a ++ (b ++ (c ++ (d ++ [])))) ++ more ≡ a ++ (b ++ (c ++ (d ++ more)))
four_parts a b c d more = simp append_assoc

-- what stands before a witness
abbrev pub before_witness : ℕ → Text → Text
before_witness event name = codes "violation " ++ (decimal event ++ (codes " " ++ (name ++ [])))

-- and what stands from it on
pub violation_is : (event : ℕ) (name : Text) (witness : List Shown) →
    before_witness event name ++ (witness_text witness ++ codes "\n") ≡ violation_line event name witness
violation_is event name witness = four_parts (codes "violation ") (decimal event) (codes " ") name (witness_text witness ++ codes "\n")
