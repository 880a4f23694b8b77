-- The five operations as one: a change of what stands at the entries to the time block.
use Rattle.std.specs.Prelude.{◌≡◌, ℕ, ◌^◌, ◌<◌, Bool, List, Option, IfSome}
use Rattle.node_tree.specs.Tree.{Tree}
use Rattle.node_tree.specs.Levels.{LevelsBelow}
use Rattle.bdd_ops.specs.Apply.{leaf_of}
use Rattle.timed_bits.specs.declared.change.Change.{Change}
use Rattle.timed_bits.specs.declared.change.Change.TheVariants.{Drop, Cap, Any, At, Stamp}
use Rattle.timed_bits.specs.declared.change.Outcome.{Outcome}
use Rattle.timed_bits.specs.declared.change.Outcome.TheVariants.{Age, Truth}
use Rattle.timed_bits.specs.Ages.{is_age}
use Rattle.timed_bits.specs.Changes.{chain, chain_of, read_on, at_entries, dropped, capped, is_there, stamped, is_one}
use Rattle.timed_bits.specs.Entries.{entry}

-- what a change makes of the tree at an entry
abbrev pub changed_entry : (first width : ℕ) → Change → Tree → Tree
changed_entry first width (Drop delta most) u = chain_of first width (dropped delta most (read_on 0 u))
changed_entry first width (Cap delta cap) u = chain_of first width (capped delta cap (read_on 0 u))
changed_entry first width Any u = leaf_of (is_there (read_on 0 u))
changed_entry first width (At age) u = leaf_of (is_age (read_on 0 u) age)
changed_entry first width Stamp u = chain_of first width (stamped (is_one u))

-- what it makes of the whole tree
abbrev pub changed : (first width : ℕ) → Change → Tree → Tree
changed first width change t = at_entries first (λ u. changed_entry first width change u) t

-- the tree of an outcome
abbrev pub tree_for : (first width : ℕ) → Outcome → Tree
tree_for first width (Age o) = chain_of first width o
tree_for first width (Truth b) = leaf_of b

-- its age is a number of the block
abbrev pub FitsOutcome : (width : ℕ) → Outcome → Type 0
FitsOutcome width (Age o) = IfSome o (λ a. a < 2 ^ width)
FitsOutcome width (Truth b) = Unit {0}

-- the new ages are numbers of the block
abbrev pub Fits : (width : ℕ) → Change → Type 0
Fits width (Drop delta most) = most < 2 ^ width
Fits width (Cap delta cap) = cap < 2 ^ width
Fits width Any = Unit {0}
Fits width (At age) = Unit {0}
Fits width Stamp = Unit {0}

-- the chain of some number of the width
abbrev pub IsChain : (width : ℕ) → Tree → Type 0
IsChain width t = (first : ℕ) × (n : ℕ) × (n < 2 ^ width) × (t ≡ chain first width n)

-- the chain of a number, or the leaf that is false
abbrev pub IsEntry : (first width : ℕ) → Tree → Type 0
IsEntry first width t = (o : Option ℕ) × IfSome o (λ a. a < 2 ^ width) × (t ≡ chain_of first width o)

-- so at each entry
abbrev pub HasChains : (first width : ℕ) → Tree → Type 0
HasChains first width t = (bits : List Bool) → IsEntry first width (entry first t bits)

abbrev pub IsLeaf : Tree → Type 0
IsLeaf t = (b : Bool) × (t ≡ leaf_of b)

-- the trees that a change takes
abbrev pub Accepts : (first width : ℕ) → Change → Tree → Type 0
Accepts first width (Drop delta most) t = HasChains first width t
Accepts first width (Cap delta cap) t = HasChains first width t
Accepts first width Any t = HasChains first width t
Accepts first width (At age) t = HasChains first width t
Accepts first width Stamp t = LevelsBelow first t

-- what a change takes at an entry
abbrev pub AcceptsEntry : (first width : ℕ) → Change → Tree → Type 0
AcceptsEntry first width (Drop delta most) t = IsEntry first width t
AcceptsEntry first width (Cap delta cap) t = IsEntry first width t
AcceptsEntry first width Any t = IsEntry first width t
AcceptsEntry first width (At age) t = IsEntry first width t
AcceptsEntry first width Stamp t = IsLeaf t
