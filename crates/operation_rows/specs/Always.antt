-- The rows of always with a bound: those of once for the negation of its operand, from the last one
-- back, and then the negation of their tree.
use Rattle.std.specs.Prelude.{ℕ, not, List, [], ◌∷◌, Result}
use Rattle.node_tree.specs.Tree.{Tree}
use Rattle.node_table.specs.Table.{Table}
use Rattle.bdd_ops.specs.declared.op.Op.TheVariants.{And, Or, AndNot}
use Rattle.bdd_ops.specs.Apply.{map_leaves}
use Rattle.timed_bits.specs.Changes.{any_time, at_time, stamp}
use Rattle.operation_rows.specs.declared.rows.RowFull.{RowFull}
use Rattle.operation_rows.specs.declared.updated.Updated.{Updated}
use Rattle.operation_rows.specs.Kinds.{applied}
use Rattle.operation_rows.specs.Lines.{EndsRows, joined_rows}
use Rattle.operation_rows.specs.Past.{past_stamped}
use Rattle.operation_rows.specs.Rows.{Row, row}

-- the last row: not what the row before says, beside that and what is remembered
abbrev pub negated_rows : (now next : Tree) → List Row
negated_rows now next = row (next ∷ now ∷ []) (map_leaves not now) ∷ []

abbrev pub EndsNegated : (number : ℕ) (now next : Tree) (roots : List ℕ) → (mid new : Table) →
    Result Updated RowFull → Type 0
EndsNegated number now next roots mid new r =
    EndsRows number (negated_rows now next) (map_leaves not now) next roots mid new r

-- rows that end by where there is an age
abbrev pub EndsWithin : (number first width : ℕ) → List Row → (ages : Tree) (roots : List ℕ) →
    (mid new : Table) → Result Updated RowFull → Type 0
EndsWithin number first width rows ages roots mid new r =
    EndsRows number rows (any_time first width ages) ages roots mid new r

-- rows that end by where the age is past the bound
abbrev pub EndsPast : (number first width past : ℕ) → List Row → (ages : Tree) (roots : List ℕ) →
    (mid new : Table) → Result Updated RowFull → Type 0
EndsPast number first width past rows ages roots mid new r =
    EndsRows number rows (at_time first width past ages) ages roots mid new r

-- within a bound: o is not f, c has the ages that were kept

abbrev pub fresh_ages : (first width : ℕ) → (c o : Tree) → Tree
fresh_ages first width c o = applied Or c (stamp first width o)

abbrev pub fresh_rows : (first width : ℕ) → (c o : Tree) → List Row
fresh_rows first width c o =
    row (c ∷ o ∷ []) (stamp first width o) ∷ joined_rows first width c (stamp first width o)

abbrev pub not_rows : (first width : ℕ) → (c f : Tree) → List Row
not_rows first width c f =
    row (c ∷ []) (map_leaves not f) ∷ fresh_rows first width c (map_leaves not f)

abbrev pub within_ages : (first width : ℕ) → (a f : Tree) → Tree
within_ages first width a f = fresh_ages first width (applied And a f) (map_leaves not f)

abbrev pub within_rows : (first width : ℕ) → (a f : Tree) → List Row
within_rows first width a f =
    row (a ∷ []) (applied And a f) ∷ not_rows first width (applied And a f) f

-- past a bound: o is not f, y tells where a has an age

abbrev pub lacking_ages : (first width : ℕ) → (a y o : Tree) → Tree
lacking_ages first width a y o = applied Or a (stamp first width (applied AndNot o y))

abbrev pub lacking_rows : (first width past : ℕ) → (a y o : Tree) → List Row
lacking_rows first width past a y o =
    row (a ∷ y ∷ o ∷ []) (applied AndNot o y) ∷
    past_stamped first width past a (applied AndNot o y)

abbrev pub past_not_rows : (first width past : ℕ) → (a y f : Tree) → List Row
past_not_rows first width past a y f =
    row (a ∷ y ∷ []) (map_leaves not f) ∷ lacking_rows first width past a y (map_leaves not f)

abbrev pub past_never_ages : (first width : ℕ) → (a f : Tree) → Tree
past_never_ages first width a f =
    lacking_ages first width a (any_time first width a) (map_leaves not f)

abbrev pub past_never_rows : (first width past : ℕ) → (a f : Tree) → List Row
past_never_rows first width past a f =
    row (a ∷ []) (any_time first width a) ∷
    past_not_rows first width past a (any_time first width a) f
