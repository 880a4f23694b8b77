-- What stands at the entries to the time block, and trees before the block that say something of an age.
use Rattle.std.specs.Prelude.{◌≡◌, ℕ, Bool, if◌then◌else◌, nat_lt, List, Option}
use Rattle.node_tree.specs.Tree.{Tree, Zero, One, Branch, IsOrdered, IsReduced, bit, value}
use Rattle.node_tree.specs.Levels.{LevelsBelow}
use Rattle.timed_bits.specs.Ages.{HasAges}
use Rattle.timed_bits.specs.Changes.{read_on}

-- the tree below the bits before the block
abbrev pub entry : ℕ → Tree → List Bool → Tree
entry first Zero bits = Zero
entry first One bits = One
entry first (Branch l a b) bits =
    if nat_lt l first then (if bit bits l then entry first b bits else entry first a bits)
    else Branch l a b

-- the age of the tree at the bits
abbrev pub age_at : ℕ → Tree → List Bool → Option ℕ
age_at first t bits = read_on 0 (entry first t bits)

-- an ordered reduced tree of levels before the block, whose values say it
pub record SaysOfAge (first : ℕ) (t : Tree) (says : List Bool → Bool) : Type 0 where
  pub ordered : IsOrdered t
  pub reduced : IsReduced t
  pub stands : LevelsBelow first t
  pub values : (bits : List Bool) → value t bits ≡ says bits

-- each assignment of the bits before the block has one number of the block, or none
abbrev pub IsAgeTree : (first width : ℕ) → Tree → Type 0
IsAgeTree first width t = (age : List Bool → Option ℕ) × HasAges first width t age
