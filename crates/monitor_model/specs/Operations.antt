-- What operations on trees give, by the values of the result.
use Rattle.std.specs.Prelude.{◌≡◌, ℕ, ◌+◌, ◌<◌, ◌≤◌, ◌⊎◌, ◌↔◌, List, Bool, IsTrue, not}
use Rattle.node_tree.specs.Tree.{Tree, IsOrdered, IsReduced, bit, value}

-- the result's values are those of an operation
pub record IsApplied (op : Bool → Bool → Bool) (u v result : Tree) : Type 0 where
  pub ordered : IsOrdered result
  pub reduced : IsReduced result
  pub values : (bits : List Bool) → value result bits ≡ op (value u bits) (value v bits)

-- the result is true where the tree is false
pub record IsNot (h result : Tree) : Type 0 where
  pub ordered : IsOrdered result
  pub reduced : IsReduced result
  pub values : (bits : List Bool) → value result bits ≡ not (value h bits)

-- the same bits outside of a block
abbrev pub SameOutside : (first n : ℕ) → (bits other : List Bool) → Type 0
SameOutside first n bits other = (l : ℕ) → (l < first) ⊎ (first + n ≤ l) → bit other l ≡ bit bits l

-- the result is true where the tree is true with some bits in the block
pub record IsSomeOfBlock (first n : ℕ) (h result : Tree) : Type 0 where
  pub ordered : IsOrdered result
  pub reduced : IsReduced result
  pub values : (bits : List Bool) → IsTrue (value result bits) ↔ ((other : List Bool) × SameOutside first n bits other × IsTrue (value h other))

-- the result is true where the tree is true with any bits in the block
pub record IsEachOfBlock (first n : ℕ) (h result : Tree) : Type 0 where
  pub ordered : IsOrdered result
  pub reduced : IsReduced result
  pub values : (bits : List Bool) → IsTrue (value result bits) ↔ ((other : List Bool) → SameOutside first n bits other → IsTrue (value h other))
