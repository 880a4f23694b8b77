-- What contracts see of a table of nodes.
use Rattle.std.specs.Prelude.{◌≡◌, ℕ, zero, suc, ◌+◌, ◌≤◌, ◌∷◌, ◌++◌, ◌||◌, Bool, true, false, List, [], Option, Some, None, is_some, if◌then◌else◌, map, length, slice_index_or}
use Rattle.std.specs.Set.{is_member, distinct_count}
use Rattle.node_tree.specs.Tree.{Tree, Zero, One, tree_eq, branches, IsOrdered, IsReduced}
use Rattle.node_table.specs.declared.node.Node.{Node}
use Rattle.node_table.specs.Unfold.{tree_at, is_valid, IsWell}

-- which numbers have a note, and what was last written for each
pub record Notes : Type 0 where
  pub marks : List Bool
  pub found : List ℕ

-- how many nodes fit, the node of each number that has one, and what was noted for a number
pub record Table : Type 0 where
  pub room : ℕ
  pub nodes : List (Option Node)
  pub notes : Notes

-- the node of a number
abbrev pub node_at : Table → ℕ → Option Node
node_at t h = slice_index_or t.nodes h None

-- the tree of a handle
abbrev pub tree_of : Table → ℕ → Tree
tree_of t h = tree_at (node_at t) h

-- a leaf, or a number that has a node
abbrev pub IsValid : Table → ℕ → Type 0
IsValid t h = is_valid (node_at t) h ≡ true

-- whether a handle is marked: it has a note
abbrev pub is_marked : Table → ℕ → Bool
is_marked t h = slice_index_or t.notes.marks h false

-- the note of a handle
abbrev pub note_of : Table → ℕ → Option ℕ
note_of t h = if is_marked t h then Some (slice_index_or t.notes.found h 0) else None

-- the numbers below n that have a node
abbrev pub numbers_below : (ℕ → Option Node) → ℕ → List ℕ
numbers_below f zero = []
numbers_below f (suc n) = if is_some (f n) then n ∷ numbers_below f n else numbers_below f n

-- the numbers that have a node
abbrev pub numbers : Table → List ℕ
numbers t = numbers_below (node_at t) (length t.nodes)

-- the trees of the nodes held
abbrev pub held : Table → List Tree
held t = map (tree_of t) (numbers t)

-- how many nodes are held
abbrev pub live_of : Table → ℕ
live_of t = length (numbers t)

-- how many nodes the held ones and the branches of a tree are together
abbrev pub need : Table → Tree → ℕ
need t tree = distinct_count tree_eq (branches tree ++ held t)

-- every valid handle stays valid, with its tree
pub record KeepsTrees (old new : Table) : Type 0 where
  pub room : new.room ≡ old.room
  pub trees : (h : ℕ) → IsValid old h → IsValid new h × (tree_of new h ≡ tree_of old h)

-- the new table holds the nodes of the old one and the branches of the tree
pub record HoldsAlso (old new : Table) (tree : Tree) : Type 0 where
  pub also : (q : Tree) → is_member tree_eq (held new) q ≡ (is_member tree_eq (branches tree) q || is_member tree_eq (held old) q)

-- the inside of a table: its nodes are well kept, and no more than fit
pub record IsTable (t : Table) : Type 0 where
  pub well : IsWell (node_at t)
  pub leaves : 2 ≤ length t.nodes
  pub few : length t.nodes ≤ t.room + 2

-- what every table promises
pub record IsShared (t : Table) : Type 0 where
  pub zero : IsValid t 0 × (tree_of t 0 ≡ Zero)
  pub one : IsValid t 1 × (tree_of t 1 ≡ One)
  pub one_handle : (h k : ℕ) → IsValid t h → IsValid t k → tree_of t h ≡ tree_of t k → h ≡ k
  pub ordered : (h : ℕ) → IsValid t h → IsOrdered (tree_of t h)
  pub reduced : (h : ℕ) → IsValid t h → IsReduced (tree_of t h)
  pub closed : (h : ℕ) → IsValid t h → (q : Tree) → is_member tree_eq (branches (tree_of t h)) q ≡ true → is_member tree_eq (held t) q ≡ true
  pub bound : live_of t ≤ t.room
