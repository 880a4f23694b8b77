-- An operation on two trees, level by level.
use Rattle.std.specs.Prelude.{ℕ, Bool, true, false, if◌then◌else◌, nat_eq, nat_lt}
use Rattle.node_tree.specs.Tree.{Tree, Zero, One, Branch, join}

abbrev pub leaf_of : Bool → Tree
leaf_of false = Zero
leaf_of true = One

-- f of the truth at each leaf
abbrev pub map_leaves : (Bool → Bool) → Tree → Tree
map_leaves f Zero = leaf_of (f false)
map_leaves f One = leaf_of (f true)
map_leaves f (Branch l a b) = join l (map_leaves f a) (map_leaves f b)

-- what f and g, which stand for the two children of a branch of level l, make of another tree
abbrev pub merge : ℕ → (Tree → Tree) → (Tree → Tree) → Tree → Tree
merge l f g Zero = join l (f Zero) (g Zero)
merge l f g One = join l (f One) (g One)
merge l f g (Branch m c d) =
    if nat_lt l m then join l (f (Branch m c d)) (g (Branch m c d))
    else (if nat_eq l m then join l (f c) (g d) else join m (merge l f g c) (merge l f g d))

-- the operation on two trees: the lesser level on top, and so on below
abbrev pub apply_tree : (Bool → Bool → Bool) → Tree → Tree → Tree
apply_tree f Zero v = map_leaves (f false) v
apply_tree f One v = map_leaves (f true) v
apply_tree f (Branch l a b) v = merge l (apply_tree f a) (apply_tree f b) v
