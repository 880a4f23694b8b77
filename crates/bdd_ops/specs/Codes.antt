-- Codes of blocks as literals.
use Rattle.std.specs.Prelude.{ℕ, zero, suc, ◌+◌, ◌/◌, ◌%◌, ◌≤◌, List, [], ◌∷◌, ◌++◌, Bool, nat_eq}
use Rattle.bdd_ops.specs.declared.literals.Literal.{Literal}
use Rattle.bdd_ops.specs.declared.code_cubes.BlockCode.{BlockCode}

-- a level and the bit that is wanted there
abbrev pub literal_at : (level : ℕ) → (bit : Bool) → Literal
literal_at level bit = record { level = level; bit = bit }

-- the literals of a code of n bits from a level on, the most significant bit first
abbrev pub code_literals : (first n code : ℕ) → List Literal
code_literals first zero c = []
code_literals first (suc n) c = code_literals first n (c / 2) ++ literal_at (first + n) (nat_eq (c % 2) 1) ∷ []

-- those of a block's code
abbrev pub block_code_literals : BlockCode → List Literal
block_code_literals c = code_literals c.block.first c.block.bits c.code

-- those of each code in order
abbrev pub code_list_literals : List BlockCode → List Literal
code_list_literals [] = []
code_list_literals (c ∷ cs) = block_code_literals c ++ code_list_literals cs

-- the block ends within the levels of 16 bits
abbrev pub HasLevels : BlockCode → Type 0
HasLevels c = c.block.first + c.block.bits ≤ 65536
