-- A block's quantifier as one row a bit.
use Rattle.std.specs.Prelude.{◌≡◌, ℕ, zero, suc, ◌+◌, List, Bool, true, false}
use Rattle.node_tree.specs.Tree.{Tree, IsOrdered, IsReduced, value}
use Rattle.node_tree.specs.Restrict.{with_bit}

-- an operation on the tree with a bit false and the tree with it true
pub record IsOverBit (op : Bool → Bool → Bool) (level : ℕ) (h result : Tree) : Type 0 where
  pub ordered : IsOrdered result
  pub reduced : IsReduced result
  pub values : (bits : List Bool) → value result bits ≡ op (value h (with_bit bits level false)) (value h (with_bit bits level true))

-- one row a bit, the last bit of the block first
abbrev pub AreRows : (Bool → Bool → Bool) → (first n : ℕ) → (h result : Tree) → Type 0
AreRows op first zero h result = result ≡ h
AreRows op first (suc n) h result = (row : Tree) × IsOverBit op (first + n) h row × AreRows op first n row result
