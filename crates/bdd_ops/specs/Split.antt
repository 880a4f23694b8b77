-- Two handles taken apart at the lesser of their levels.
use Rattle.std.specs.Prelude.{◌≡◌, ℕ, ◌<◌, min}
use Rattle.node_tree.specs.Tree.{top}
use Rattle.node_table.specs.Table.{Table, tree_of, IsValid}
use Rattle.bdd_ops.specs.declared.parts.Split.{Split}
use Rattle.bdd_ops.specs.Parts.{low_at, high_at}

pub record Splits (t : Table) (u v : ℕ) (s : Split) : Type 0 where
  pub least : s.level ≡ min (top (tree_of t u)) (top (tree_of t v))
  pub small : s.level < 65536
  pub left_low : IsValid t s.left_low × (tree_of t s.left_low ≡ low_at s.level (tree_of t u))
  pub left_high : IsValid t s.left_high × (tree_of t s.left_high ≡ high_at s.level (tree_of t u))
  pub right_low : IsValid t s.right_low × (tree_of t s.right_low ≡ low_at s.level (tree_of t v))
  pub right_high : IsValid t s.right_high × (tree_of t s.right_high ≡ high_at s.level (tree_of t v))
