-- An operation on one tree that takes a level out of it.
use Rattle.std.specs.Prelude.{◌≡◌, ◌≢◌, ℕ, ◌+◌, ◌<◌, ◌≤◌, if◌then◌else◌, nat_eq, Bool, true, false, List, Some, Result}
use Rattle.node_tree.specs.Tree.{Tree, Zero, One, Branch, join}
use Rattle.node_table.specs.declared.table.Full.{Full}
use Rattle.node_table.specs.Table.{Table, tree_of, IsValid}
use Rattle.op_cache.specs.declared.key.Place.{Place}
use Rattle.op_cache.specs.Memo.{Memo, result_at}
use Rattle.bdd_ops.specs.declared.op.Op.{Op}
use Rattle.bdd_ops.specs.declared.op.Op.TheVariants.{And, Or}
use Rattle.bdd_ops.specs.declared.level.Merge.{Merge}
use Rattle.bdd_ops.specs.declared.level.Merge.TheVariants.{Low, High, Either, Both}
use Rattle.bdd_ops.specs.Apply.{apply_tree}
use Rattle.bdd_ops.specs.Numbers.{truth_of, number_of}
use Rattle.bdd_ops.specs.Parts.{IsBranch}
use Rattle.bdd_ops.specs.Applied.{Makes, HoldsResults, depths, unfinished, Costs}

-- g of the children in place of each branch of the level, joined again above
abbrev pub at_level : (Tree → Tree → Tree) → ℕ → Tree → Tree
at_level g l Zero = Zero
at_level g l One = One
at_level g l (Branch m a b) = if nat_eq m l then g a b else join m (at_level g l a) (at_level g l b)

-- what takes the place of a branch, given its children
abbrev pub merged : Merge → Tree → Tree → Tree
merged Low a b = a
merged High a b = b
merged Either a b = apply_tree (truth_of Or) a b
merged Both a b = apply_tree (truth_of And) a b

-- the child that a bit leads to
abbrev pub child : Bool → Merge
child true = High
child false = Low

-- the number of the operation in a memo
abbrev pub merge_number : Merge → ℕ
merge_number Low = 5
merge_number High = 6
merge_number Either = 16
merge_number Both = 17

-- the operation on two trees that it uses at the level, if any
abbrev pub inner : Merge → Op
inner Low = And
inner High = And
inner Either = Or
inner Both = And

-- each pair of the number is one node's, and holds what f makes of its tree
pub record HoldsTrees (f : Tree → Tree) (number : ℕ) (t : Table) (pairs : List (Place × ℕ)) : Type 0 where
  pub each : (u v k : ℕ) → result_at pairs (record { op = number; left = u; right = v }) ≡ Some k → (u ≡ v) × IsValid t u × IsBranch (tree_of t u) × IsValid t k × (tree_of t k ≡ f (tree_of t u))

-- the pairs of other numbers than two, and of deeper trees, are as before
pub record LeavesRest (t : Table) (old new : List (Place × ℕ)) (a b u v : ℕ) : Type 0 where
  pub other_op : (q : Place) → q.op ≢ a → q.op ≢ b → result_at new q ≡ result_at old q
  pub deeper : (q : Place) → IsValid t q.left → IsValid t q.right → depths t u v < depths t q.left q.right → result_at new q ≡ result_at old q

-- the tree without the level was made, by a memo of such trees
pub record Changes (merge : Merge) (level h : ℕ) (old new : Table) (memo later : Memo ℕ) (before after : ℕ) (r : Result ℕ Full) : Type 0 where
  pub made : Makes (at_level (merged merge) level (tree_of old h)) old new r
  pub sound : HoldsResults new later.pairs
  pub remembers : HoldsTrees (at_level (merged merge) level) (merge_number merge) new later.pairs
  pub others : LeavesRest old memo.pairs later.pairs (merge_number merge) (number_of (inner merge)) h h
  pub costs : Costs memo later (before + 1) after (unfinished r (depths old h h))

-- what the operation at the level made of two trees
pub record Merges (merge : Merge) (u v : ℕ) (old new : Table) (memo later : Memo ℕ) (before after : ℕ) (r : Result ℕ Full) : Type 0 where
  pub made : Makes (merged merge (tree_of old u) (tree_of old v)) old new r
  pub sound : HoldsResults new later.pairs
  pub others : LeavesRest old memo.pairs later.pairs (number_of (inner merge)) (number_of (inner merge)) u v
  pub costs : Costs memo later before after (unfinished r (depths old u v))

-- a node down to a level: its level, and the handles of its children
pub record IsAbove (t : Table) (h level at low high : ℕ) : Type 0 where
  pub tree : tree_of t h ≡ Branch at (tree_of t low) (tree_of t high)
  pub low_valid : IsValid t low
  pub high_valid : IsValid t high
  pub above : at ≤ level
