-- Cubes: conjunctions of literals.
use Rattle.std.specs.Prelude.{ℕ, ◌+◌, ◌≤◌, Bool, true, ◌&&◌, not, List, [], ◌∷◌, if◌then◌else◌}
use Rattle.node_tree.specs.Tree.{Tree, Zero, One, join, bit}
use Rattle.bdd_ops.specs.declared.literals.Literal.{Literal}

-- the tree that holds where the literal does and a tree below its level
abbrev pub literal_tree : Literal → Tree → Tree
literal_tree l t = if l.bit then join l.level Zero t else join l.level t Zero

abbrev pub cube_tree : List Literal → Tree
cube_tree [] = One
cube_tree (l ∷ ls) = literal_tree l (cube_tree ls)

-- the tree that holds where all literals do and a tree below their levels
abbrev pub cube_over : List Literal → Tree → Tree
cube_over [] t = t
cube_over (l ∷ ls) t = literal_tree l (cube_over ls t)

-- whether the bit of the literal's level is its bit
abbrev pub holds : Literal → List Bool → Bool
holds l bits = if l.bit then bit bits l.level else not (bit bits l.level)

abbrev pub all_hold : List Literal → List Bool → Bool
all_hold [] bits = true
all_hold (l ∷ ls) bits = holds l bits && all_hold ls bits

-- each level is at least n, and levels grow
abbrev pub AscendFrom : ℕ → List Literal → Type 0
AscendFrom n [] = Unit {0}
AscendFrom n (l ∷ ls) = (n ≤ l.level) × AscendFrom (l.level + 1) ls
