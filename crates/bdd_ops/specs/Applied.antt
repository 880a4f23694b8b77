-- What an operation leaves that may stand in the middle of another.
use Rattle.std.specs.Prelude.{◌≡◌, ◌≢◌, ℕ, ◌+◌, ◌*◌, ◌<◌, ◌≤◌, ◌||◌, ◌↔◌, true, List, length, Some, Result, Ok, Err, IfOk, IsErr}
use Rattle.std.specs.Set.{is_member}
use Rattle.node_tree.specs.Tree.{Tree, tree_eq, branches, depth}
use Rattle.node_table.specs.declared.table.Full.{Full}
use Rattle.node_table.specs.Table.{Table, tree_of, IsValid, held, need, KeepsTrees, IsShared}
use Rattle.op_cache.specs.declared.key.Place.{Place}
use Rattle.op_cache.specs.Memo.{Memo, result_at}
use Rattle.bdd_ops.specs.declared.op.Op.{Op}
use Rattle.bdd_ops.specs.Apply.{apply_tree}
use Rattle.bdd_ops.specs.Numbers.{truth_of, number_of, place}

-- the nodes held are those at entry and branches of the tree; every valid handle keeps its tree
pub record Grows (old new : Table) (tree : Tree) : Type 0 where
  pub keeps : KeepsTrees old new
  pub kept : (q : Tree) → is_member tree_eq (held old) q ≡ true → is_member tree_eq (held new) q ≡ true
  pub only : (q : Tree) → is_member tree_eq (held new) q ≡ true → (is_member tree_eq (branches tree) q || is_member tree_eq (held old) q) ≡ true
  pub shared : IsShared new

-- a tree was made; or the nodes held and its branches are together more than fit
pub record Makes (tree : Tree) (old new : Table) (r : Result ℕ Full) : Type 0 where
  pub valid : IfOk r (λ h. IsValid new h)
  pub is : IfOk r (λ h. tree_of new h ≡ tree)
  pub grows : Grows old new tree
  pub full : IsErr r ↔ (old.room < need old tree)

-- an operation's tree
abbrev pub op_tree : Op → Table → ℕ → ℕ → Tree
op_tree op t u v = apply_tree (truth_of op) (tree_of t u) (tree_of t v)

-- each pair of an operation holds its result, on valid handles
pub record HoldsResults (t : Table) (pairs : List (Place × ℕ)) : Type 0 where
  pub each : (op : Op) (u v h : ℕ) → result_at pairs (place op u v) ≡ Some h → IsValid t u × IsValid t v × IsValid t h × (tree_of t h ≡ op_tree op t u v)

-- how deep two trees are together
abbrev pub depths : Table → ℕ → ℕ → ℕ
depths t u v = depth (tree_of t u) + depth (tree_of t v)

-- the pairs of other operations, and of deeper trees, are as before
pub record LeavesOthers (t : Table) (old new : List (Place × ℕ)) (op u v : ℕ) : Type 0 where
  pub other_op : (q : Place) → q.op ≢ op → result_at new q ≡ result_at old q
  pub deeper : (q : Place) → IsValid t q.left → IsValid t q.right → depths t u v < depths t q.left q.right → result_at new q ≡ result_at old q

-- the keys that were expanded and have no result yet: at most so many, and none after an answer
abbrev pub unfinished : Result ℕ Full → ℕ → ℕ
unfinished (Ok h) n = 0
unfinished (Err e) n = n

-- while the memo has room, two steps for each pair that came, and for each key without a result
pub record Costs (old new : Memo ℕ) (before after unstored : ℕ) : Type 0 where
  pub entries : new.entries ≡ old.entries
  pub grows : length old.pairs ≤ length new.pairs
  pub steps : length new.pairs < new.entries → after + 2 * length old.pairs ≤ before + 2 * length new.pairs + 2 * unstored

-- an operation's tree was made, by a memo of operations
pub record Applies (op : Op) (u v : ℕ) (old new : Table) (memo later : Memo ℕ) (before after : ℕ) (r : Result ℕ Full) : Type 0 where
  pub made : Makes (op_tree op old u v) old new r
  pub sound : HoldsResults new later.pairs
  pub others : LeavesOthers old memo.pairs later.pairs (number_of op) u v
  pub costs : Costs memo later before after (unfinished r (depths old u v))
