-- The tree under a number, where a function says which node a number has.
use Rattle.std.proofs.Common.{lit<}
use Rattle.std.specs.Prelude.{◌≡◌, ◌≢◌, ℕ, zero, suc, ◌<◌, Bool, true, Option, Some, None}
use Rattle.std.specs.Option.{is_some}
use Rattle.node_table.specs.declared.node.Node.{Node}
use Rattle.node_tree.specs.Tree.{Tree, Zero, One, Branch}

abbrev pub node_tree : Option Node → (ℕ → Tree) → Tree
node_tree None below = Zero
node_tree (Some n) below = Branch n.level (below n.low) (below n.high)

-- the tree under a number, cut off below a number of branches; 0 and 1 are the leaves
abbrev pub tree_in : (ℕ → Option Node) → ℕ → ℕ → Tree
tree_in f zero h = Zero
tree_in f (suc n) zero = Zero
tree_in f (suc n) (suc zero) = One
tree_in f (suc n) (suc (suc k)) = node_tree (f (suc (suc k))) (tree_in f n)

-- more branches than there are levels
pub all_levels : ℕ
all_levels = 65537

pub all_levels-big : 65536 < all_levels
unfolding all_levels
all_levels-big = lit< tt

-- the tree under a number
abbrev pub tree_at : (ℕ → Option Node) → ℕ → Tree
tree_at f h = tree_in f all_levels h

abbrev pub is_valid : (ℕ → Option Node) → ℕ → Bool
is_valid f zero = true
is_valid f (suc zero) = true
is_valid f (suc (suc k)) = is_some (f (suc (suc k)))

abbrev pub level_of : Option Node → ℕ
level_of None = 65536
level_of (Some n) = n.level

abbrev pub level_at : (ℕ → Option Node) → ℕ → ℕ
level_at f zero = 65536
level_at f (suc zero) = 65536
level_at f (suc (suc k)) = level_of (f (suc (suc k)))

-- children are held, on greater levels, and differ; no node is held twice
pub record IsWell (f : ℕ → Option Node) : Type 0 where
  pub no_zero : f 0 ≡ None
  pub no_one : f 1 ≡ None
  pub low : (h : ℕ) (n : Node) → f h ≡ Some n → (is_valid f n.low ≡ true) × (n.level < level_at f n.low)
  pub high : (h : ℕ) (n : Node) → f h ≡ Some n → (is_valid f n.high ≡ true) × (n.level < level_at f n.high)
  pub apart : (h : ℕ) (n : Node) → f h ≡ Some n → n.low ≢ n.high
  pub level : (h : ℕ) (n : Node) → f h ≡ Some n → n.level < 65536
  pub single : (h k : ℕ) (n : Node) → f h ≡ Some n → f k ≡ Some n → h ≡ k
