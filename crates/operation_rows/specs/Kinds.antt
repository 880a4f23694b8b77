-- The rows of each kind, over the trees of their letters. The letters kept beside a row are those
-- of earlier rows that it or a later row names, or that are remembered.
use Rattle.std.specs.Prelude.{ℕ, zero, suc, List, [], ◌∷◌, ◌++◌, Bool}
use Rattle.node_tree.specs.Tree.{Tree, Zero}
use Rattle.bdd_ops.specs.declared.op.Op.{Op}
use Rattle.bdd_ops.specs.declared.op.Op.TheVariants.{Or}
use Rattle.bdd_ops.specs.Numbers.{truth_of}
use Rattle.bdd_ops.specs.Apply.{apply_tree}
use Rattle.quantify.specs.Quantified.{after_rows}
use Rattle.operation_rows.specs.Rows.{Row, row, Update, plain, timed}

-- an operation on two trees
abbrev pub applied : Op → Tree → Tree → Tree
applied op u v = apply_tree (truth_of op) u v

abbrev pub one_row : Tree → Update
one_row t = plain (row [] t ∷ []) t

-- the second row names the first one
abbrev pub two_rows : Tree → Tree → Update
two_rows a t = plain (row [] a ∷ row (a ∷ []) t ∷ []) t

-- the first n rows of quantification over a block; the row before stays, and so does the operand
abbrev pub block_rows : Bool → (first bits n : ℕ) → Tree → List Row
block_rows all first bits zero t = []
block_rows all first bits (suc n) t =
    block_rows all first bits n t ++
    row (after_rows all first bits n t ∷ []) (after_rows all first bits (suc n) t) ∷ []

abbrev pub block_update : Bool → (first bits : ℕ) → Tree → Update
block_update all first bits t =
    plain (block_rows all first bits bits t) (after_rows all first bits bits t)

-- an atom joins the cubes of the facts that it fits, one after the other; it is zero where it fits
-- none
abbrev pub union_rows : Tree → List Tree → List Row
union_rows u [] = []
union_rows u (d ∷ ds) =
    row (u ∷ []) d ∷ row (u ∷ d ∷ []) (applied Or u d) ∷ union_rows (applied Or u d) ds

abbrev pub union_of : Tree → List Tree → Tree
union_of u [] = u
union_of u (d ∷ ds) = union_of (applied Or u d) ds

abbrev pub atom_update : List Tree → Update
atom_update [] = one_row Zero
atom_update (c ∷ cs) = plain (row [] c ∷ union_rows c cs) (union_of c cs)

-- f S[<=n] g: a drops ages, b keeps those where f holds, c those where g doesn't, z is g now, e has
-- both, y tells where there is an age
abbrev pub since_at_most : (a b c z e y : Tree) → Update
since_at_most a b c z e y =
    timed
    (row [] a ∷ row (a ∷ []) b ∷ row (b ∷ []) c ∷ row (c ∷ []) z ∷ row (c ∷ z ∷ []) e ∷
    row (e ∷ []) y ∷ []) y e

-- P[<=n] f: the same without b
abbrev pub once_at_most : (a c z e y : Tree) → Update
once_at_most a c z e y =
    timed
    (row [] a ∷ row (a ∷ []) c ∷ row (c ∷ []) z ∷ row (c ∷ z ∷ []) e ∷ row (e ∷ []) y ∷ []) y e

-- H[<=n] f: P[<=n] of o, which is not f, and v is not y
abbrev pub always_at_most : (a c o z e y v : Tree) → Update
always_at_most a c o z e y v =
    timed
    (row [] a ∷ row (a ∷ []) c ∷ row (c ∷ []) o ∷ row (c ∷ o ∷ []) z ∷ row (c ∷ z ∷ []) e ∷
    row (e ∷ []) y ∷ row (e ∷ y ∷ []) v ∷ []) v e

-- f S[>n] g: c caps ages, a keeps those where f holds, y tells where there is one, w is g
-- elsewhere, z is w now, e has both, v tells where the age is past the bound
abbrev pub since_more_than : (c a y w z e v : Tree) → Update
since_more_than c a y w z e v =
    timed
    (row [] c ∷ row (c ∷ []) a ∷ row (a ∷ []) y ∷ row (a ∷ y ∷ []) w ∷ row (a ∷ w ∷ []) z ∷
    row (a ∷ z ∷ []) e ∷ row (e ∷ []) v ∷ []) v e

-- P[>n] f: the same without c
abbrev pub once_more_than : (a y w z e v : Tree) → Update
once_more_than a y w z e v =
    timed
    (row [] a ∷ row (a ∷ []) y ∷ row (a ∷ y ∷ []) w ∷ row (a ∷ w ∷ []) z ∷ row (a ∷ z ∷ []) e ∷
    row (e ∷ []) v ∷ []) v e

-- H[>n] f: P[>n] of o, which is not f, and u is not v
abbrev pub always_more_than : (a y o w z e v u : Tree) → Update
always_more_than a y o w z e v u =
    timed
    (row [] a ∷ row (a ∷ []) y ∷ row (a ∷ y ∷ []) o ∷ row (a ∷ y ∷ o ∷ []) w ∷ row (a ∷ w ∷ []) z ∷
    row (a ∷ z ∷ []) e ∷ row (e ∷ []) v ∷ row (e ∷ v ∷ []) u ∷ []) u e
