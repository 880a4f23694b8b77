-- What a handle is, and its parts at a level.
use Rattle.std.specs.Prelude.{ℕ, if◌then◌else◌, nat_eq}
use Rattle.node_tree.specs.Tree.{Tree, Zero, One, Branch}
use Rattle.node_table.specs.declared.handle.Branch as branch

-- no leaf
abbrev pub IsBranch : Tree → Type 0
IsBranch Zero = ⊥
IsBranch One = ⊥
IsBranch (Branch level low high) = Unit {0}

abbrev pub IsNode : branch.Branch → Type 0
IsNode branch.TheVariants.Zero = ⊥
IsNode branch.TheVariants.One = ⊥
IsNode (branch.TheVariants.Node level low high) = Unit {0}

-- the level of the root; a leaf stands below all levels
abbrev pub level_of : branch.Branch → ℕ
level_of branch.TheVariants.Zero = 65536
level_of branch.TheVariants.One = 65536
level_of (branch.TheVariants.Node level low high) = level

-- the children of a handle whose level it is, else the handle itself
abbrev pub low_of : branch.Branch → (h level : ℕ) → ℕ
low_of branch.TheVariants.Zero h level = h
low_of branch.TheVariants.One h level = h
low_of (branch.TheVariants.Node at low high) h level = if nat_eq at level then low else h

abbrev pub high_of : branch.Branch → (h level : ℕ) → ℕ
high_of branch.TheVariants.Zero h level = h
high_of branch.TheVariants.One h level = h
high_of (branch.TheVariants.Node at low high) h level = if nat_eq at level then high else h

-- a tree's children at a level that it doesn't stand above, else the tree itself
abbrev pub low_at : ℕ → Tree → Tree
low_at level Zero = Zero
low_at level One = One
low_at level (Branch at low high) = if nat_eq at level then low else Branch at low high

abbrev pub high_at : ℕ → Tree → Tree
high_at level Zero = Zero
high_at level One = One
high_at level (Branch at low high) = if nat_eq at level then high else Branch at low high
