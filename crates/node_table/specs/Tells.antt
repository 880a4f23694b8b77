-- What `branch` tells of a handle.
use Rattle.std.specs.Prelude.{◌≡◌, ℕ}
use Rattle.node_table.specs.declared.handle.Branch as branch
use Rattle.node_tree.specs.Tree.{Zero, One, Branch}
use Rattle.node_table.specs.Table.{Table, tree_of, IsValid}

-- a leaf, or the level and the children of the handle's tree
abbrev pub TellsTree : Table → ℕ → branch.Branch → Type 0
TellsTree t h branch.TheVariants.Zero = tree_of t h ≡ Zero
TellsTree t h branch.TheVariants.One = tree_of t h ≡ One
TellsTree t h (branch.TheVariants.Node level low high) = (tree_of t h ≡ Branch level (tree_of t low) (tree_of t high)) × IsValid t low × IsValid t high
