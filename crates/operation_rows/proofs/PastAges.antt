-- The trees of the rows past a bound are age trees.
use Rattle.std.proofs.Common.{ℕ, ◌^◌, ◌<◌, not, ◌&&◌}
use Rattle.node_tree.specs.Tree.{Tree, IsOrdered, IsReduced, value}
use Rattle.node_tree.specs.Levels.{LevelsBelow}
use Rattle.bdd_ops.specs.declared.op.Op.TheVariants.{AndNot}
use Rattle.timed_bits.specs.Ages.{HasAgesTo}
use Rattle.timed_bits.specs.Changes.{age_cap, any_time, capped, stamped, is_there, either_age}
use Rattle.timed_bits.specs.Entries.{IsAgeTree}
use Rattle.timed_bits.proofs.Ages.{age_cap-ages, any_time-says}
use Rattle.timed_bits.proofs.Others.{says_itself, and_not-says, or_stamp_elsewhere}
use Rattle.operation_rows.specs.Kinds.{applied}
use Rattle.operation_rows.specs.Past.{past_ages}

-- what is capped is an age tree
pub capped-ages : (first width delta cap : ℕ) (m : Tree) → cap < 2 ^ width → HasAgesTo first width cap m → IsAgeTree first width (age_cap first width delta cap m)
capped-ages first width delta cap m l (age, h, most) = ((λ bits. capped delta cap (age bits)), age_cap-ages first width delta cap m age l h)

-- and so are ages with the stamp of g elsewhere
pub past-ages : (first width : ℕ) (g a : Tree) → IsOrdered g → IsReduced g → LevelsBelow first g → IsAgeTree first width a → IsAgeTree first width (past_ages first width g a)
past-ages first width g a o r b (age, h) =
    ((λ bits. either_age (age bits) (stamped (value g bits && not (is_there (age bits))))), or_stamp_elsewhere first width g a (λ bits. value g bits) age (says_itself first g o r b) h)

-- g elsewhere stands before the block
pub past-below : (first width : ℕ) (g a : Tree) → IsOrdered g → IsReduced g → LevelsBelow first g → IsAgeTree first width a → LevelsBelow first (applied AndNot g (any_time first width a))
past-below first width g a o r b (age, h) =
    (and_not-says first g (any_time first width a) (λ bits. value g bits) (λ bits. is_there (age bits)) (says_itself first g o r b) (any_time-says first width a age h)).stands
