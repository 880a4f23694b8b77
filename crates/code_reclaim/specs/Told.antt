-- Which codes of a block trees tell apart from all ones.
use Rattle.std.specs.Prelude.{◌≢◌, ℕ, ◌-◌, ◌^◌, Bool, not, List}
use Rattle.std.specs.List.{list_any, Any}
use Rattle.node_tree.specs.Tree.{Tree, tree_eq, value}
use Rattle.bdd_ops.specs.Reading.{set_block, with_code}

-- whether a tree differs between the block's bits set to a code and set to all ones
abbrev pub differs : (first bits code : ℕ) → Tree → Bool
differs first bits code t = not (tree_eq (set_block first bits code t) (set_block first bits (2 ^ bits - 1) t))

-- whether some tree does
abbrev pub told_apart : List Tree → (first bits code : ℕ) → Bool
told_apart trees first bits code = list_any (differs first bits code) trees

-- some tree has unequal values at some bits with the block set to the code and to all ones
abbrev pub IsToldApart : List Tree → (first bits code : ℕ) → Type 0
IsToldApart trees first bits code =
    Any (λ t. (others : List Bool) × (value t (with_code others first bits code) ≢ value t (with_code others first bits (2 ^ bits - 1)))) trees
