-- What a whole operation leaves: it collects where the table is full, and refuses only where that doesn't help.
use Rattle.std.specs.Prelude.{◌≡◌, ℕ, ◌<◌, ◌↔◌, List, ◌∷◌, ◌++◌, map, length, slice_index_or, Result, IfOk, IsErr}
use Rattle.node_tree.specs.Tree.{Tree, IsOrdered, IsReduced, size}
use Rattle.node_table.specs.Table.{Table, tree_of, IsValid, IsShared}
use Rattle.bdd_ops.specs.declared.store.NodesFull.{NodesFull}

-- each handle of a list is valid, with the tree that it had
abbrev pub AllStay : Table → Table → List ℕ → Type 0
AllStay old new hs = (j : ℕ) → j < length hs → IsValid new (slice_index_or hs j 0) × (tree_of new (slice_index_or hs j 0) ≡ tree_of old (slice_index_or hs j 0))

-- how many distinct branches a tree and those of handles have together
abbrev pub need_with : Tree → List ℕ → Table → ℕ
need_with tree hs t = size (tree ∷ map (tree_of t) hs)

-- a tree was made, or it has with operands and roots more branches than fit; these keep their trees in both answers
pub record Operates (tree : Tree) (operands roots : List ℕ) (old new : Table) (r : Result ℕ NodesFull) : Type 0 where
  pub room : new.room ≡ old.room
  pub shared : IsShared new
  pub valid : IfOk r (λ h. IsValid new h)
  pub is : IfOk r (λ h. tree_of new h ≡ tree)
  pub ordered : IfOk r (λ h. IsOrdered (tree_of new h))
  pub reduced : IfOk r (λ h. IsReduced (tree_of new h))
  pub operands_stay : AllStay old new operands
  pub roots_stay : AllStay old new roots
  pub full : IsErr r ↔ (old.room < need_with tree (operands ++ roots) old)
