-- What a store becomes when its table or its memo is changed.
use Rattle.std.specs.Prelude.{ℕ}
use Rattle.std.specs.Borrow.{Lends, MutBor, Fml}
use Rattle.node_table.specs.Table.{Table}
use Rattle.node_table.specs.contracts.table.NodeTable.{the_row as table_row}
use Rattle.node_table.specs.contracts.handle.Handle.{the_row as handle_row}
use Rattle.op_cache.specs.Memo.{Memo}
use Rattle.op_cache.specs.contracts.cache.OpCache.{the_row as memo_row}
use Rattle.bdd_ops.specs.Shelf.{Shelf}
use Rattle.bdd_ops.specs.contracts.store.Store.{the_row}

-- the store ends with what the lent table became, and with its memo
abbrev pub LendsTable : MutBor Shelf → MutBor Table → Fml
LendsTable s r = Lends the_row table_row s r (λ w. record { table = w; memo = s.now.memo })

-- the store ends with its table, and with what the lent memo became
abbrev pub LendsMemo : MutBor Shelf → MutBor (Memo ℕ) → Fml
LendsMemo s r = Lends the_row (memo_row handle_row) s r (λ w. record { table = s.now.table; memo = w })
