-- Decision trees: what a diagram means, with nothing shared. Bryant 1986.
use Rattle.std.specs.Prelude.{◌≡◌, ◌≢◌, ℕ, ◌+◌, ◌≤◌, List, [], ◌∷◌, ◌++◌, Bool, true, false, ◌&&◌, if◌then◌else◌, nat_eq, max, slice_index_or}
use Rattle.std.specs.List.{flat_map}
use Rattle.std.specs.Set.{distinct_count}

pub data Tree : Type 0 where
  Zero : Tree
  One : Tree
  Branch : (level : ℕ) → (low : Tree) → (high : Tree) → Tree

-- each level is at least n, and levels grow downwards
abbrev pub IsOrderedFrom : ℕ → Tree → Type 0
IsOrderedFrom n Zero = Unit {0}
IsOrderedFrom n One = Unit {0}
IsOrderedFrom n (Branch level low high) = (n ≤ level) × IsOrderedFrom (level + 1) low × IsOrderedFrom (level + 1) high

-- levels grow downwards
abbrev pub IsOrdered : Tree → Type 0
IsOrdered t = IsOrderedFrom 0 t

-- no branch has two equal children
abbrev pub IsReduced : Tree → Type 0
IsReduced Zero = Unit {0}
IsReduced One = Unit {0}
IsReduced (Branch level low high) = (low ≢ high) × IsReduced low × IsReduced high

-- the bit of a level; those past the end are false
abbrev pub bit : List Bool → ℕ → Bool
bit bits level = slice_index_or bits level false

-- the truth at bits: a true bit leads to the high child
abbrev pub value : Tree → List Bool → Bool
value Zero bits = false
value One bits = true
value (Branch level low high) bits = if bit bits level then value high bits else value low bits

-- two trees have equal values at all bits
abbrev pub SameValues : Tree → Tree → Type 0
SameValues s t = (bits : List Bool) → value s bits ≡ value t bits

-- whether two trees are the same
abbrev pub tree_eq : Tree → Tree → Bool
tree_eq Zero Zero = true
tree_eq One One = true
tree_eq (Branch k a b) (Branch l c d) = nat_eq k l && (tree_eq a c && tree_eq b d)
tree_eq _ _ = false

-- the branch, or its child where both are one
abbrev pub join : ℕ → Tree → Tree → Tree
join level low high = if tree_eq low high then low else Branch level low high

-- the level of the uppermost branch; a leaf stands below all levels of 16 bits
abbrev pub top : Tree → ℕ
top Zero = 65536
top One = 65536
top (Branch level low high) = level

-- how many branches stand over each other at most
abbrev pub depth : Tree → ℕ
depth Zero = 0
depth One = 0
depth (Branch level low high) = max (depth low) (depth high) + 1

-- the subtrees that are branches, as often as they stand there
abbrev pub branches : Tree → List Tree
branches Zero = []
branches One = []
branches (Branch level low high) = Branch level low high ∷ (branches low ++ branches high)

-- the branches of several trees
abbrev pub branches_of : List Tree → List Tree
branches_of ts = flat_map branches ts

-- how many distinct branches the trees have together
abbrev pub size : List Tree → ℕ
size ts = distinct_count tree_eq (branches_of ts)
