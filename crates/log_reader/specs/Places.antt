-- Where in a field a byte stands, told by the bytes of the field before it.
use Rattle.std.specs.Prelude.{ℕ, [], ◌∷◌, Option, Some, None, Bool, true, false, ◌&&◌, ◌||◌, not, ◌==◌, if◌then◌else◌}
use Rattle.qtl_syntax.specs.Tree.{Text}
use Rattle.log_reader.specs.Fields.{is_blank, drop_blanks, quoted}
use Rattle.log_reader.specs.declared.place.Place.{Place}
use Rattle.log_reader.specs.declared.place.Place.TheVariants.{Before, Plain, Inside, AtQuote, Behind}

abbrev pub place_behind : Text → Place
place_behind [] = AtQuote
place_behind (b ∷ bs) = Behind

abbrev pub place_in_quotes : Option (Text × Text) → Place
place_in_quotes None = Inside
place_in_quotes (Some p) = place_behind p.1

abbrev pub place_behind_blanks : Text → Place
place_behind_blanks [] = Before
place_behind_blanks (b ∷ bs) = if b == 34 then place_in_quotes (quoted bs) else Plain

-- the place behind these bytes of a field
abbrev pub place_of : Text → Place
place_of field = place_behind_blanks (drop_blanks field)

-- the place behind one byte more
abbrev pub next_place : Place → ℕ → Place
next_place Before b = if b == 34 then Inside else (if is_blank b then Before else Plain)
next_place Plain b = Plain
next_place Inside b = if b == 34 then AtQuote else Inside
next_place AtQuote b = if b == 34 then Inside else Behind
next_place Behind b = Behind

abbrev pub is_inside : Place → Bool
is_inside Inside = true
is_inside Before = false
is_inside Plain = false
is_inside AtQuote = false
is_inside Behind = false

-- the byte is neither a comma nor a line feed
abbrev pub is_between : ℕ → Bool
is_between b = not (b == 44) && not (b == 10)

-- a byte at this place belongs to the field
abbrev pub is_in_field : Place → ℕ → Bool
is_in_field Before b = is_between b
is_in_field Plain b = is_between b
is_in_field Inside b = true
is_in_field AtQuote b = b == 34 || is_blank b
is_in_field Behind b = is_blank b

-- the place behind a byte of the field, and none where the byte isn't the field's
abbrev pub place_on : Place → ℕ → Option Place
place_on place b = if is_in_field place b then Some (next_place place b) else None

abbrev pub then_on : Option Place → ℕ → Option Place
then_on None b = None
then_on (Some place) b = place_on place b

-- the place behind bytes that all are the field's
abbrev pub run_on : Option Place → Text → Option Place
run_on place [] = place
run_on place (b ∷ bs) = run_on (then_on place b) bs
