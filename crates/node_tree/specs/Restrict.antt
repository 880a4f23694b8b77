-- A tree with one bit set.
use Rattle.std.specs.Prelude.{ℕ, zero, suc, Bool, false, List, [], ◌∷◌, if◌then◌else◌, nat_eq}
use Rattle.node_tree.specs.Tree.{Tree, Zero, One, Branch, join}

-- the bits with the one of a level set
abbrev pub with_bit : List Bool → ℕ → Bool → List Bool
with_bit [] zero v = v ∷ []
with_bit [] (suc level) v = false ∷ with_bit [] level v
with_bit (b ∷ bits) zero v = v ∷ bits
with_bit (b ∷ bits) (suc level) v = b ∷ with_bit bits level v

-- the tree without the level, whose bit is v
abbrev pub restrict : ℕ → Bool → Tree → Tree
restrict l v Zero = Zero
restrict l v One = One
restrict l v (Branch m low high) = if nat_eq m l then (if v then high else low) else join m (restrict l v low) (restrict l v high)
