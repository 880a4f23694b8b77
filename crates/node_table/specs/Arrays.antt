-- How a table's arrays hold its nodes.
use Rattle.std.specs.Prelude.{◌≡◌, ℕ, ◌+◌, ◌<◌, ◌≤◌, List, map, length, Option, Some, None, nat_eq, ◌==◌, if◌then◌else◌, slice_index_or}
use Rattle.node_table.specs.declared.arrays.Slot.{Slot}
use Rattle.node_table.specs.declared.node.Node.{Node}
use Rattle.node_table.specs.Unfold.{IsWell}
use Rattle.node_table.specs.Table.{Table, Notes, numbers_below}
use Rattle.node_table.specs.Chains.{IsChained, IsFree}

-- the node of a slot; in a free slot the children are equal
abbrev pub node_of : Slot → Option Node
node_of s = if nat_eq s.node.low s.node.high then None else Some s.node

abbrev pub empty_slot : Slot
empty_slot = record { node = record { level = 0; low = 0; high = 0 }; chain = 0 }

abbrev pub slot_at : List Slot → ℕ → Slot
slot_at slots h = slice_index_or slots h empty_slot

-- the node of a number
abbrev pub node_in : List Slot → ℕ → Option Node
node_in slots h = node_of (slot_at slots h)

-- the number that follows in the chain
abbrev pub chain_in : List Slot → ℕ → ℕ
chain_in slots h = (slot_at slots h).chain

-- notes, each with the number of the round in which it was taken
abbrev pub notes_of : List ℕ → List ℕ → ℕ → Notes
notes_of marks found round = record { marks = map (λ m. nat_eq m round) marks; found = found }

-- what the arrays stand for
abbrev pub table_of : ℕ → List Slot → Notes → Table
table_of room slots notes = record { room = room; nodes = map node_of slots; notes = notes }

-- slots in their buckets and in the chain of the free ones
pub record IsLinked (room : ℕ) (slots : List Slot) (heads : List ℕ) (first_free : ℕ) : Type 0 where
  pub bound : room ≤ 4194304
  pub leaves : 2 ≤ length slots
  pub few : length slots ≤ room + 2
  pub well : IsWell (node_in slots)
  pub buckets : 0 < length heads
  pub chained : IsChained (node_in slots) (chain_in slots) heads (length slots)
  pub free : IsFree (node_in slots) (chain_in slots) first_free (length slots)

-- the arrays of a table
pub record IsKept (room : ℕ) (slots : List Slot) (heads marks : List ℕ) (first_free round live : ℕ) : Type 0 where
  pub linked : IsLinked room slots heads first_free
  pub marked : length marks ≡ length slots
  pub rounds : (h : ℕ) → slice_index_or marks h 0 ≤ round
  pub started : 0 < round
  pub count : live ≡ length (numbers_below (node_in slots) (length slots))

-- a number that had no node has got one
pub record PutsNode (old new : List Slot) (node : Node) (number : ℕ) : Type 0 where
  pub free : node_in old number ≡ None
  pub two : 2 ≤ number
  pub inside : number < length new
  pub put : (h : ℕ) → node_in new h ≡ (if h == number then Some node else node_in old h)
