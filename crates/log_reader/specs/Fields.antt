-- What a field of a record is: its bytes, as they stand between commas, and the text that they spell.
use Rattle.std.specs.Prelude.{ℕ, [], ◌∷◌, Option, Some, None, Bool, true, false, ◌||◌, ◌==◌, if◌then◌else◌, reverse}
use Rattle.qtl_syntax.specs.Tree.{Text}

-- space, tab and carriage return
abbrev pub is_blank : ℕ → Bool
is_blank b = b == 32 || (b == 9 || b == 13)

-- the bytes from the first one on that is no blank
abbrev pub drop_blanks : Text → Text
drop_blanks [] = []
drop_blanks (b ∷ bs) = if is_blank b then drop_blanks bs else b ∷ bs

-- the bytes without the blanks at both ends
abbrev pub trimmed : Text → Text
trimmed bytes = reverse (drop_blanks (reverse (drop_blanks bytes)))

-- one byte more at the front of a text
abbrev pub with_byte : ℕ → Option (Text × Text) → Option (Text × Text)
with_byte b None = None
with_byte b (Some p) = Some (b ∷ p.0, p.1)

-- Of the bytes behind an opening quote: the text up to the next quote that isn't doubled, where a doubled quote is one
-- quote and each other byte stands for itself, and the bytes behind that quote. None where there is no such quote.
abbrev pub quoted : Text → Option (Text × Text)
quoted [] = None
quoted (b ∷ []) = if b == 34 then Some ([], []) else None
quoted (b ∷ c ∷ bs) =
    if b == 34 then (if c == 34 then with_byte 34 (quoted bs) else Some ([], c ∷ bs)) else with_byte b (quoted (c ∷ bs))

-- how a field is written
pub data Form : Type 0 where
  Bare : Form  -- without quotes
  Open : Form  -- in quotes that are not closed
  Closed : (text behind : Text) → Form  -- in quotes, with what stands behind the closing one

abbrev pub quoted_form : Option (Text × Text) → Form
quoted_form None = Open
quoted_form (Some p) = Closed p.0 p.1

-- a field whose first byte behind blanks is a quote is quoted
abbrev pub form_behind_blanks : Text → Form
form_behind_blanks [] = Bare
form_behind_blanks (b ∷ bs) = if b == 34 then quoted_form (quoted bs) else Bare

abbrev pub form_of : Text → Form
form_of field = form_behind_blanks (drop_blanks field)

-- what stands behind a field so far stands in its quotes
abbrev pub is_open : Form → Bool
is_open Bare = false
is_open Open = true
is_open (Closed text behind) = false

-- the text of a field: what its quotes hold, else its bytes without the blanks at both ends
abbrev pub text_in : Form → Text → Text
text_in Bare field = trimmed field
text_in Open field = []
text_in (Closed text behind) field = text

abbrev pub text_of : Text → Text
text_of field = text_in (form_of field) field
