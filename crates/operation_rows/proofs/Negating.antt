-- Rows of once for a negation, and the negation of what they say.
use Rattle.std.proofs.Common.{◌≡◌, ℕ, zero, suc, ◌+◌, not, ◌&&◌, List, [], ◌∷◌, ◌++◌, length, map, refl, arith, subst}
use Rattle.std.specs.Prelude.{Result, Ok, Err}
use Rattle.node_tree.specs.Tree.{Tree, IsOrdered, IsReduced, value}
use Rattle.node_tree.specs.Levels.{LevelsBelow}
use Rattle.node_table.specs.Table.{Table, tree_of, IsValid}
use Rattle.node_table.specs.Collects.{AllValid}
use Rattle.bdd_ops.specs.declared.op.Op.TheVariants.{AndNot}
use Rattle.bdd_ops.specs.Apply.{map_leaves}
use Rattle.timed_bits.specs.Changes.{any_time, is_there, stamped, age_where, either_age}
use Rattle.timed_bits.specs.Entries.{IsAgeTree}
use Rattle.timed_bits.proofs.Ages.{any_time-says}
use Rattle.timed_bits.proofs.Others.{says_itself, not-says, and_not-says, within-or_stamp, or_stamp_elsewhere}
use Rattle.operation_rows.specs.declared.rows.RowFull.{RowFull}
use Rattle.operation_rows.specs.declared.updated.Updated.{Updated}
use Rattle.operation_rows.specs.Kinds.{applied}
use Rattle.operation_rows.specs.Rows.{Row, timed, MakesUpdate}
use Rattle.operation_rows.specs.Always.{EndsNegated, negated_rows, within_ages, past_never_ages}
use Rattle.operation_rows.proofs.Fitting.{rows_stopped}

-- a fact of trees, told by trees that are the same

pub of_two : (P : Tree → Tree → Type 0) (x p y q : Tree) → x ≡ p → y ≡ q → P x y → P p q
of_two P x p y q a b h = subst (P p) b (subst (λ t. P t y) a h)

pub of_three : (P : Tree → Tree → Tree → Type 0) (x p y q z r : Tree) → x ≡ p → y ≡ q → z ≡ r → P x y z → P p q r
of_three P x p y q z r a b c h = subst (P p q) c (of_two (λ s t. P s t z) x p y q a b h)

-- and by the same roots
pub told_two : (P : Tree → Tree → List ℕ → Type 0) (x p y q : Tree) (given roots : List ℕ) → x ≡ p → y ≡ q → given ≡ roots → P x y given → P p q roots
told_two P x p y q given roots a b e h = subst (P p q) e (of_two (λ s t. P s t given) x p y q a b h)

pub told_three : (P : Tree → Tree → Tree → List ℕ → Type 0) (x p y q z r : Tree) (given roots : List ℕ) → x ≡ p → y ≡ q → z ≡ r → given ≡ roots → P x y z given → P p q r roots
told_three P x p y q z r given roots a b c e h = subst (P p q r) e (of_three (λ s t u. P s t u given) x p y q z r a b c h)

pub three_valid : (t : Table) (u v w : ℕ) → IsValid t u → IsValid t v → IsValid t w → AllValid t (u ∷ (v ∷ (w ∷ [])))
three_valid t u v w a b c zero l = a
three_valid t u v w a b c (suc zero) l = b
three_valid t u v w a b c (suc (suc zero)) l = c
three_valid t u v w a b c (suc (suc (suc j))) l = absurd (omega (arith, l))

-- after the rows of an update comes the negation of its tree
pub then_negated : (first : List Row) (now next : Tree) (roots : List ℕ) (old w new : Table) (u : Updated) (r : Result Updated RowFull) → MakesUpdate (timed first now next) roots old w (Ok u) →
    EndsNegated (length first + 1) (tree_of w u.now) (tree_of w u.next) roots w new r → MakesUpdate (timed (first ++ negated_rows now next) (map_leaves not now) next) roots old new r
then_negated first now next roots old w new u r m rest =
    of_two (λ x y. MakesUpdate (timed (first ++ negated_rows x y) (map_leaves not x) y) roots old new r) (tree_of w u.now) now (tree_of w u.next) next m.now.1 m.next.1
    (rest first old refl (record { room = m.room; roots_stay = m.roots_stay; fit = m.full }))

-- and a row of an update that doesn't fit ends the rows with more
pub negated_stops : (first more : List Row) (now next last kept : Tree) (roots : List ℕ) (old w : Table) (f : RowFull) → MakesUpdate (timed first now next) roots old w (Err f) →
    MakesUpdate (timed (first ++ more) last kept) roots old w (Err f)
negated_stops first more now next last kept roots old w f m = record {
  room = m.room;
  shared = m.shared;
  roots_stay = m.roots_stay;
  now = tt;
  next = tt;
  full = rows_stopped old.room (map (tree_of old) roots) first more f.row m.full;
}

-- the ages of H within a bound
pub never-ages : (first width : ℕ) (a f : Tree) → IsOrdered f → IsReduced f → LevelsBelow first f → IsAgeTree first width a → IsAgeTree first width (within_ages first width a f)
never-ages first width a f o r b (age, h) =
    ((λ bits. either_age (age_where (value f bits) (age bits)) (stamped (not (value f bits)))), within-or_stamp first width a f age (λ bits. value f bits) h (says_itself first f o r b))

-- and past one
pub past_never-ages : (first width : ℕ) (a f : Tree) → IsOrdered f → IsReduced f → LevelsBelow first f → IsAgeTree first width a → IsAgeTree first width (past_never_ages first width a f)
past_never-ages first width a f o r b (age, h) = (
  (λ bits. either_age (age bits) (stamped (not (value f bits) && not (is_there (age bits))))),
  or_stamp_elsewhere first width (map_leaves not f) a (λ bits. not (value f bits)) age (not-says first f (λ bits. value f bits) (says_itself first f o r b)) h,
)

-- where f fails and there is no age stands before the block
pub past_never-below : (first width : ℕ) (a f : Tree) → IsOrdered f → IsReduced f → LevelsBelow first f → IsAgeTree first width a → LevelsBelow first (applied AndNot (map_leaves not f) (any_time first width a))
past_never-below first width a f o r b (age, h) =
    (and_not-says first (map_leaves not f) (any_time first width a) (λ bits. not (value f bits)) (λ bits. is_there (age bits)) (not-says first f (λ bits. value f bits) (says_itself first f o r b)) (any_time-says first width a age h)).stands
