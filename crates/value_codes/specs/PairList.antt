-- A book's pairs as lists in the program hold them.
use Rattle.std.specs.Prelude.{ℕ}
use Rattle.qtl_syntax.specs.Tree.{Text}
use Rattle.value_codes.specs.declared.pair.Pair.{Pair}

-- a pair as a text and a code
abbrev pub pair_of : Pair → Text × ℕ
pair_of p = (p.value, p.code)
