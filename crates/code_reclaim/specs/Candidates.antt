-- The candidates: per code of a block, from some code on, whether no tree is known to tell it apart.
use Rattle.std.specs.Prelude.{◌≡◌, ℕ, ◌+◌, ◌≤◌, Bool, true, false, not, ◌&&◌, List, [], ◌∷◌, slice_index_or}
use Rattle.node_tree.specs.Tree.{Tree, tree_eq}
use Rattle.node_tree.specs.Restrict.{restrict}
use Rattle.node_table.specs.Table.{Table, tree_of, IsValid}
use Rattle.bdd_ops.specs.Reading.{set_block}

-- whether a place of the list is a candidate
abbrev pub is_candidate : List Bool → ℕ → Bool
is_candidate candidates i = slice_index_or candidates i false

-- the candidates without the codes of which a test holds, where the list begins with the code c
abbrev pub struck : (ℕ → Bool) → ℕ → List Bool → List Bool
struck test c [] = []
struck test c (b ∷ candidates) = (b && not (test c)) ∷ struck test (c + 1) candidates

-- whether a tree with a block's bits set to a code is another one than this
abbrev pub departs : (first bits : ℕ) → Tree → Tree → ℕ → Bool
departs first bits t ones c = not (tree_eq (set_block first bits c t) ones)

-- a tree that has a node in a block, with the block's first bit false, and true
pub record HasHalves (t : Table) (h first bits low high : ℕ) : Type 0 where
  pub some : 1 ≤ bits
  pub low_valid : IsValid t low
  pub high_valid : IsValid t high
  pub low_tree : tree_of t low ≡ restrict first false (tree_of t h)
  pub high_tree : tree_of t high ≡ restrict first true (tree_of t h)
