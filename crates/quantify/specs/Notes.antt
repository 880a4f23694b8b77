-- What the notes of a walk say, and how many handles have none.
use Rattle.std.specs.Prelude.{◌≡◌, ℕ, zero, suc, ◌+◌, Option, Some, is_some, if◌then◌else◌}
use Rattle.node_tree.specs.Tree.{Tree}
use Rattle.node_tree.specs.Levels.{LevelsBelow}
use Rattle.node_table.specs.Table.{Table, tree_of, note_of, IsValid}

-- each note holds what f makes of its handle's tree
abbrev pub HoldsNotes : (Tree → Tree) → Table → Type 0
HoldsNotes f t = (u k : ℕ) → note_of t u ≡ Some k → IsValid t u × IsValid t k × (tree_of t k ≡ f (tree_of t u))

-- a handle that is its own note has a tree whose levels all stand before this one
abbrev pub NotesBefore : ℕ → Table → Type 0
NotesBefore level t = (u : ℕ) → note_of t u ≡ Some u → LevelsBelow level (tree_of t u)

-- how many numbers below n have no note
abbrev pub unnoted_below : (ℕ → Option ℕ) → ℕ → ℕ
unnoted_below f zero = 0
unnoted_below f (suc n) = (if is_some (f n) then 0 else 1) + unnoted_below f n

-- how many of the numbers that there can be have no note
abbrev pub unnoted : Table → ℕ
unnoted t = unnoted_below (note_of t) (t.room + 2)
