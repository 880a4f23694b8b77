-- How the text in quotes is read off its bytes.
use Rattle.std.specs.Prelude.{ℕ, ◌+◌, [], ◌∷◌, ◌++◌, drop, Option, Some, None, Bool, false, ◌==◌, ◌&&◌, not, slice_index}
use Rattle.qtl_syntax.specs.Tree.{Text}

abbrev pub is_quote : ℕ → Bool
is_quote b = b == 34

abbrev pub begins_with_quote : Text → Bool
begins_with_quote [] = false
begins_with_quote (b ∷ bs) = b == 34

-- the quote at this place isn't doubled
abbrev pub closes : Text → ℕ → Bool
closes bytes at = slice_index bytes at == 34 && not (begins_with_quote (drop (at + 1) bytes))

-- the text of what was found in quotes
abbrev pub quoted_text : Option (Text × Text) → Text
quoted_text None = []
quoted_text (Some p) = p.0

-- it, with a text before it
abbrev pub with_text : Text → Option (Text × Text) → Option (Text × Text)
with_text text None = None
with_text text (Some p) = Some (text ++ p.0, p.1)
