-- The rows of a timed operator past a bound, from the last one back.
use Rattle.std.specs.Prelude.{ℕ, List, [], ◌∷◌}
use Rattle.node_tree.specs.Tree.{Tree}
use Rattle.bdd_ops.specs.declared.op.Op.TheVariants.{And, Or, AndNot}
use Rattle.timed_bits.specs.Changes.{any_time, at_time, stamp}
use Rattle.operation_rows.specs.Kinds.{applied}
use Rattle.operation_rows.specs.Rows.{Row, row}

abbrev pub past_last : (first width past : ℕ) → (e : Tree) → List Row
past_last first width past e = row (e ∷ []) (at_time first width past e) ∷ []

abbrev pub past_joined : (first width past : ℕ) → (a z : Tree) → List Row
past_joined first width past a z =
    row (a ∷ z ∷ []) (applied Or a z) ∷ past_last first width past (applied Or a z)

abbrev pub past_stamped : (first width past : ℕ) → (a w : Tree) → List Row
past_stamped first width past a w =
    row (a ∷ w ∷ []) (stamp first width w) ∷ past_joined first width past a (stamp first width w)

abbrev pub past_elsewhere : (first width past : ℕ) → (g a y : Tree) → List Row
past_elsewhere first width past g a y =
    row (a ∷ y ∷ []) (applied AndNot g y) ∷ past_stamped first width past a (applied AndNot g y)

abbrev pub past_rows : (first width past : ℕ) → (g a : Tree) → List Row
past_rows first width past g a =
    row (a ∷ []) (any_time first width a) ∷ past_elsewhere first width past g a (any_time first width a)

abbrev pub past_ages : (first width : ℕ) → (g a : Tree) → Tree
past_ages first width g a = applied Or a (stamp first width (applied AndNot g (any_time first width a)))

abbrev pub past_since : (first width past : ℕ) → (c f g : Tree) → List Row
past_since first width past c f g = row (c ∷ []) (applied And f c) ∷ past_rows first width past g (applied And f c)

abbrev pub past_since_ages : (first width : ℕ) → (c f g : Tree) → Tree
past_since_ages first width c f g = past_ages first width g (applied And f c)
