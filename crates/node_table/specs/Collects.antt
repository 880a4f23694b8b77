-- What a collection leaves.
use Rattle.std.specs.Prelude.{◌≡◌, ℕ, ◌<◌, ◌||◌, List, length, map, slice_index_or}
use Rattle.std.specs.Set.{is_member}
use Rattle.node_tree.specs.Tree.{Tree, tree_eq, branches_of}
use Rattle.node_table.specs.Table.{Table, tree_of, IsValid, held}

-- each handle of a list is valid
abbrev pub AllValid : Table → List ℕ → Type 0
AllValid t hs = (j : ℕ) → j < length hs → IsValid t (slice_index_or hs j 0)

-- the valid handles keep their trees, the roots are among them, and the nodes held are the branches of the roots' trees
pub record Collects (old new : Table) (roots more : List ℕ) : Type 0 where
  pub room : new.room ≡ old.room
  pub trees : (h : ℕ) → IsValid new h → IsValid old h × (tree_of new h ≡ tree_of old h)
  pub roots_stay : AllValid new roots
  pub more_stay : AllValid new more
  pub nodes : (q : Tree) → is_member tree_eq (held new) q ≡ (is_member tree_eq (branches_of (map (tree_of old) roots)) q || is_member tree_eq (branches_of (map (tree_of old) more)) q)
