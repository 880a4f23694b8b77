-- What contracts see of a store, and when its memo has room.
use Rattle.std.specs.Prelude.{ℕ, ◌+◌, ◌*◌, ◌≤◌, length}
use Rattle.node_table.specs.Table.{Table}
use Rattle.op_cache.specs.Memo.{Memo}

-- a table and a memo of operations on its handles
pub record Shelf : Type 0 where
  pub table : Table
  pub memo : Memo ℕ

-- how many pairs of handles a table can have; the leaves have handles too
abbrev pub handle_pairs : Table → ℕ
handle_pairs t = (t.room + 2) * (t.room + 2)

-- the memo is large enough that each operation's steps are bounded
abbrev pub IsLarge : Shelf → Type 0
IsLarge s = (s.table.room + 2) * (s.table.room + 3) ≤ s.memo.entries

-- there is room for each pair of handles, and for each handle
abbrev pub HasRoom : Shelf → Type 0
HasRoom s = length s.memo.pairs + (s.table.room + 2) * (s.table.room + 3) ≤ s.memo.entries

-- the most steps of one try of an operation that takes a level out
abbrev pub try_steps : Table → ℕ
try_steps t = 2 * handle_pairs t + 6 * t.room + 1

-- where the memo is large enough, six steps for each pair of handles at most
abbrev pub IsBounded : Shelf → ℕ → ℕ → Type 0
IsBounded s before after = IsLarge s → after ≤ before + 6 * handle_pairs s.table
