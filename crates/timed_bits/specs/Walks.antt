-- What a walk over the nodes before the time block leaves.
use Rattle.std.specs.Prelude.{◌≡◌, ℕ, ◌+◌, ◌*◌, ◌<◌, ◌≤◌, Result}
use Rattle.node_tree.specs.Tree.{Tree, Branch, depth}
use Rattle.node_table.specs.declared.table.Full.{Full}
use Rattle.node_table.specs.Table.{Table, tree_of, note_of, IsValid}
use Rattle.bdd_ops.specs.Applied.{Makes, unfinished}
use Rattle.quantify.specs.Notes.{HoldsNotes, unnoted}

-- the notes are the same
abbrev pub SameNotes : Table → Table → Type 0
SameNotes old new = (h : ℕ) → note_of new h ≡ note_of old h

-- a node before the level: its own level, and the handles of its children
pub record IsNodeBefore (t : Table) (h first at low high : ℕ) : Type 0 where
  pub tree : tree_of t h ≡ Branch at (tree_of t low) (tree_of t high)
  pub low_valid : IsValid t low
  pub high_valid : IsValid t high
  pub before : at < first

-- what f makes of a handle's tree was made, by notes of such trees; the notes of deeper trees are as
-- before. For each note that was taken, and for each handle that was begun and not finished, it took
-- two steps more than fit nodes at most
pub record Walks (f : Tree → Tree) (h : ℕ) (old new : Table) (before after : ℕ)
    (r : Result ℕ Full) : Type 0 where
  pub made : Makes (f (tree_of old h)) old new r
  pub noted : HoldsNotes f new
  pub deeper : (u : ℕ) → IsValid old u → depth (tree_of old h) < depth (tree_of old u) → note_of new u ≡ note_of old u
  pub cost : (n : ℕ) → n ≡ old.room + 2 →
      after + n * unnoted new ≤ before + n * unnoted old + n * unfinished r (depth (tree_of old h) + 1)
