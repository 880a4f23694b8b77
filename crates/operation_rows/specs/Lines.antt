-- Rows one after the other, each over what is kept of those before it.
use Rattle.std.specs.Prelude.{◌≡◌, ℕ, ◌+◌, ◌⊎◌, List, [], ◌∷◌, ◌++◌, map, length, Some, None, Result, IfOk, IfErr}
use Rattle.std.specs.List.{Contains}
use Rattle.node_tree.specs.Tree.{Tree}
use Rattle.node_table.specs.Table.{Table, tree_of, IsValid, IsShared}
use Rattle.bdd_ops.specs.Operates.{AllStay}
use Rattle.operation_rows.specs.declared.rows.RowFull.{RowFull}
use Rattle.operation_rows.specs.declared.updated.Updated.{Updated}
use Rattle.bdd_ops.specs.declared.op.Op.TheVariants.{And, Or, AndNot}
use Rattle.timed_bits.specs.Changes.{any_time, stamp}
use Rattle.operation_rows.specs.Kinds.{applied}
use Rattle.operation_rows.specs.Rows.{Row, row, first_full, timed, MakesUpdate}

-- rows that were made so far: they fit beside the roots, which keep their trees
pub record Made (rows : List Row) (roots : List ℕ) (old new : Table) : Type 0 where
  pub room : new.room ≡ old.room
  pub roots_stay : AllStay old new roots
  pub fit : first_full old.room (map (tree_of old) roots) rows ≡ None

-- one more row after any rows, whose letters are kept beside it: it fits, or it is the first row that
-- does not
pub record MakesRow (number : ℕ) (tree : Tree) (roots letters : List ℕ) (mid new : Table)
    (r : Result ℕ RowFull) : Type 0 where
  pub room : new.room ≡ mid.room
  pub shared : IsShared new
  pub roots_stay : AllStay mid new roots
  pub letters_stay : AllStay mid new letters
  pub valid : IfOk r (λ h. IsValid new h)
  pub is : IfOk r (λ h. tree_of new h ≡ tree)
  pub made : (rows : List Row) (old : Table) → number ≡ length rows + 1 → Made rows roots old mid →
      IfOk r (λ h. Made (rows ++ row (map (tree_of mid) letters) tree ∷ []) roots old new)
  pub full : (rows : List Row) (old : Table) → number ≡ length rows + 1 → Made rows roots old mid →
      IfErr r (λ e. (more : List Row) →
      first_full old.room (map (tree_of old) roots) (rows ++ row (map (tree_of mid) letters) tree ∷ more) ≡ Some e.row)

-- the last rows of a timed subformula after any rows
abbrev pub EndsRows : (number : ℕ) (more : List Row) (now next : Tree) (roots : List ℕ) →
    (mid new : Table) → Result Updated RowFull → Type 0
EndsRows number more now next roots mid new r =
    (rows : List Row) (old : Table) → number ≡ length rows + 1 → Made rows roots old mid →
    MakesUpdate (timed (rows ++ more) now next) roots old new r

-- a root or a letter
abbrev pub IsKept : (roots letters : List ℕ) → ℕ → Type 0
IsKept roots letters h = Contains roots h ⊎ Contains letters h

-- the rows from the last one back

abbrev pub last_rows : (first width : ℕ) → (e : Tree) → List Row
last_rows first width e = row (e ∷ []) (any_time first width e) ∷ []

abbrev pub joined_rows : (first width : ℕ) → (c z : Tree) → List Row
joined_rows first width c z =
    row (c ∷ z ∷ []) (applied Or c z) ∷ last_rows first width (applied Or c z)

abbrev pub stamped_rows : (first width : ℕ) → (c g : Tree) → List Row
stamped_rows first width c g =
    row (c ∷ []) (stamp first width g) ∷ joined_rows first width c (stamp first width g)

abbrev pub without_rows : (first width : ℕ) → (a f : Tree) → List Row
without_rows first width a f =
    row (a ∷ []) (applied AndNot a f) ∷ stamped_rows first width (applied AndNot a f) f

abbrev pub without_ages : (first width : ℕ) → (a f : Tree) → Tree
without_ages first width a f = applied Or (applied AndNot a f) (stamp first width f)

abbrev pub since_rows : (first width : ℕ) → (a f g : Tree) → List Row
since_rows first width a f g =
    row (a ∷ []) (applied And f a) ∷ without_rows first width (applied And f a) g

abbrev pub since_ages : (first width : ℕ) → (a f g : Tree) → Tree
since_ages first width a f g = without_ages first width (applied And f a) g
