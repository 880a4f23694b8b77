-- A stamp over a tree before the block has ages within any bound.
use Rattle.std.proofs.Common.{◌≡◌, ℕ, ◌≤◌, Bool, true, false, sym, subst, arith}
use Rattle.std.specs.Prelude.{Result, Ok, Err, IfOk, IfSome}
use Rattle.node_tree.specs.Tree.{Tree, IsOrdered, IsReduced, value}
use Rattle.node_tree.specs.Levels.{LevelsBelow}
use Rattle.node_table.specs.Table.{Table, tree_of}
use Rattle.bdd_ops.specs.declared.store.NodesFull.{NodesFull}
use Rattle.timed_bits.specs.Ages.{HasAgesTo}
use Rattle.timed_bits.specs.Changes.{stamp, stamped}
use Rattle.timed_bits.proofs.Ages.{stamp-ages}

within : (b : Bool) (most : ℕ) → IfSome (stamped b) (λ a. a ≤ most)
within true most = omega arith
within false most = tt

pub stamp-to : (first width most : ℕ) (t : Tree) → IsOrdered t → IsReduced t → LevelsBelow first t → HasAgesTo first width most (stamp first width t)
stamp-to first width most t o r b = ((λ bits. stamped (value t bits)), stamp-ages first width t o r b, λ bits. within (value t bits) most)

pub stamp-to_ok : (first width : ℕ) (t : Tree) (new : Table) (r : Result ℕ NodesFull) → IsOrdered t → IsReduced t → LevelsBelow first t → IfOk r (λ h. tree_of new h ≡ stamp first width t) →
    IfOk r (λ h. (most : ℕ) → HasAgesTo first width most (tree_of new h))
stamp-to_ok first width t new (Ok h) o r b e = λ most. subst (HasAgesTo first width most) (sym e) (stamp-to first width most t o r b)
stamp-to_ok first width t new (Err x) o r b e = tt
