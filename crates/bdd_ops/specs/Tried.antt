-- What a short try of an operation leaves.
use Rattle.std.specs.Prelude.{◌≡◌, ℕ, Option, IfSome}
use Rattle.node_tree.specs.Tree.{Tree}
use Rattle.node_table.specs.Table.{Table, tree_of, IsValid, KeepsTrees, IsShared}

-- a tree was made, or the try was given up; every valid handle keeps its tree
pub record Tries (tree : Tree) (old new : Table) (r : Option ℕ) : Type 0 where
  pub keeps : KeepsTrees old new
  pub shared : IsShared new
  pub answer : IfSome r (λ h. IsValid new h × (tree_of new h ≡ tree))
