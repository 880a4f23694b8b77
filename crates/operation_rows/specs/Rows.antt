-- The operation rows of a subformula: what each makes, what is kept beside it, and whether it fits.
use Rattle.std.specs.Prelude.{◌≡◌, ℕ, ◌+◌, List, [], ◌∷◌, ◌++◌, map, if◌then◌else◌, nat_lt, Option, Some, None, Result, Ok, Err, IfOk}
use Rattle.node_tree.specs.Tree.{Tree, size}
use Rattle.node_table.specs.Table.{Table, tree_of, IsValid, IsShared}
use Rattle.bdd_ops.specs.Operates.{AllStay}
use Rattle.operation_rows.specs.declared.rows.RowFull.{RowFull}
use Rattle.operation_rows.specs.declared.updated.Updated.{Updated}

-- a row: the letters of earlier rows that are kept beside it, and its tree
pub record Row : Type 0 where
  pub beside : List Tree
  pub tree : Tree

abbrev pub row : List Tree → Tree → Row
row beside tree = record { beside = beside; tree = tree }

-- how many distinct branches a row needs, with what is kept for the event
abbrev pub row_need : List Tree → Row → ℕ
row_need kept r = size (kept ++ (r.beside ++ r.tree ∷ []))

-- the number of the next row
abbrev pub one_more : Option ℕ → Option ℕ
one_more None = None
one_more (Some n) = Some (n + 1)

-- the first row, counted from 1, that needs more than so many branches
abbrev pub first_full : (room : ℕ) → List Tree → List Row → Option ℕ
first_full room kept [] = None
first_full room kept (r ∷ rows) =
    if nat_lt room (row_need kept r) then Some 1 else one_more (first_full room kept rows)

-- what a subformula makes at an event: its rows, its tree, and the one that it remembers, if it is
-- temporal
pub record Update : Type 0 where
  pub rows : List Row
  pub now : Tree
  pub next : Tree

-- a subformula whose tree is its last row's, and which remembers that tree if any
abbrev pub plain : List Row → Tree → Update
plain rows now = record { rows = rows; now = now; next = now }

-- a timed subformula: it remembers the age tree e
abbrev pub timed : List Row → (now e : Tree) → Update
timed rows now e = record { rows = rows; now = now; next = e }

-- whether the rows were made, and if not, which was the first that doesn't fit
abbrev pub full_row : {A : Type 0} → Result A RowFull → Option ℕ
full_row (Ok made) = None
full_row (Err e) = Some e.row

-- the handles have what was to be made, and each row fits beside the trees of the roots; or this
-- row is the first that doesn't. The roots keep their trees
pub record MakesUpdate (u : Update) (roots : List ℕ) (old new : Table)
    (r : Result Updated RowFull) : Type 0 where
  pub room : new.room ≡ old.room
  pub shared : IsShared new
  pub roots_stay : AllStay old new roots
  pub now : IfOk r (λ h. IsValid new h.now × (tree_of new h.now ≡ u.now))
  pub next : IfOk r (λ h. IsValid new h.next × (tree_of new h.next ≡ u.next))
  pub full : first_full old.room (map (tree_of old) roots) u.rows ≡ full_row r
