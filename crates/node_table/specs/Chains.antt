-- How nodes and free slots are chained: a chain is told by its links alone, since its numbers go one way.
use Rattle.std.specs.Prelude.{◌≡◌, ◌≢◌, ℕ, ◌<◌, ◌≤◌, List, length, Option, Some, None, slice_index_or}
use Rattle.node_table.specs.declared.node.Node.{Node}
use Rattle.node_table.specs.Hash.{bucket_of}

-- n is the greatest number below a limit whose node belongs to the bucket, or 0
pub record IsNextNode (f : ℕ → Option Node) (buckets bucket n limit : ℕ) : Type 0 where
  pub below : n < limit
  pub real : n ≢ 0 → (s : Node) × (f n ≡ Some s) × (bucket_of buckets s ≡ bucket)
  pub greatest : (k : ℕ) (s : Node) → f k ≡ Some s → bucket_of buckets s ≡ bucket → k < limit → k ≤ n

-- the head of a bucket's chain
abbrev pub head_in : List ℕ → ℕ → ℕ
head_in heads bucket = slice_index_or heads bucket 0

-- from its head on, a bucket's chain goes down over all its nodes
pub record IsChained (f : ℕ → Option Node) (chain : ℕ → ℕ) (heads : List ℕ) (limit : ℕ) : Type 0 where
  pub head : (bucket : ℕ) → bucket < length heads → IsNextNode f (length heads) bucket (head_in heads bucket) limit
  pub link : (h : ℕ) (s : Node) → f h ≡ Some s → IsNextNode f (length heads) (bucket_of (length heads) s) (chain h) h

-- n is the least number above h, and below a limit, that has no node, or 0
pub record IsNextFree (f : ℕ → Option Node) (limit n h : ℕ) : Type 0 where
  pub real : n ≢ 0 → (h < n) × (n < limit) × (f n ≡ None)
  pub least : (k : ℕ) → h < k → k < limit → f k ≡ None → (n ≢ 0) × (n ≤ k)

-- from the first one on, the chain of free slots goes up over all of them
pub record IsFree (f : ℕ → Option Node) (chain : ℕ → ℕ) (first limit : ℕ) : Type 0 where
  pub start : IsNextFree f limit first 1
  pub link : (h : ℕ) → 1 < h → h < limit → f h ≡ None → IsNextFree f limit (chain h) h

-- p is the least number above another that belongs to the bucket
pub record IsPlace (f : ℕ → Option Node) (chain : ℕ → ℕ) (buckets bucket number p : ℕ) : Type 0 where
  pub above : number < p
  pub real : (s : Node) × (f p ≡ Some s) × (bucket_of buckets s ≡ bucket)
  pub next : chain p < number
