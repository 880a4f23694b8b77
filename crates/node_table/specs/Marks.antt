-- Marks of a round, and the nodes that a collection keeps.
use Rattle.std.specs.Prelude.{◌≡◌, ℕ, zero, suc, ◌<◌, ◌≤◌, ◌⊎◌, Bool, true, List, length, Option, Some, None, nat_eq, nat_le, ◌&&◌, not, if◌then◌else◌, slice_index_or}
use Rattle.std.specs.List.{count_by}
use Rattle.std.specs.Set.{is_member}
use Rattle.node_tree.specs.Tree.{tree_eq, branches}
use Rattle.node_table.specs.declared.node.Node.{Node}
use Rattle.node_table.specs.Unfold.{tree_at}

-- whether a number is marked in a round
abbrev pub has_mark : List ℕ → ℕ → ℕ → Bool
has_mark marks round k = nat_eq (slice_index_or marks k 0) round

-- a leaf, or marked
abbrev pub is_kept : List ℕ → ℕ → ℕ → Bool
is_kept marks round zero = true
is_kept marks round (suc zero) = true
is_kept marks round (suc (suc k)) = has_mark marks round (suc (suc k))

-- the list has each marked number, and no other
pub record IsReached (marks waiting : List ℕ) (round : ℕ) : Type 0 where
  pub started : 0 < round
  pub two : (k : ℕ) → has_mark marks round k ≡ true → 2 ≤ k
  pub listed : (k : ℕ) → has_mark marks round k ≡ true → (j : ℕ) × (j < length waiting) × (slice_index_or waiting j 0 ≡ k)
  pub marked : (j : ℕ) → j < length waiting → has_mark marks round (slice_index_or waiting j 0) ≡ true
  pub count : length waiting ≡ count_by (λ m. nat_eq m round) marks

-- marks stay, the number is kept, and it is the only one that may be marked anew
pub record Reaches (old new : List ℕ) (round h : ℕ) : Type 0 where
  pub grows : (k : ℕ) → has_mark old round k ≡ true → has_mark new round k ≡ true
  pub here : is_kept new round h ≡ true
  pub only : (k : ℕ) → has_mark new round k ≡ true → (has_mark old round k ≡ true) ⊎ (k ≡ h)

-- the same of the first n numbers of a list
pub record ReachesAll (old new : List ℕ) (round : ℕ) (hs : List ℕ) (n : ℕ) : Type 0 where
  pub grows : (k : ℕ) → has_mark old round k ≡ true → has_mark new round k ≡ true
  pub here : (j : ℕ) → j < n → is_kept new round (slice_index_or hs j 0) ≡ true
  pub only : (k : ℕ) → has_mark new round k ≡ true → (has_mark old round k ≡ true) ⊎ ((j : ℕ) × (j < n) × (k ≡ slice_index_or hs j 0))

-- each marked number has a node
abbrev pub MarksNodes : (ℕ → Option Node) → List ℕ → ℕ → Type 0
MarksNodes f marks round = (k : ℕ) → has_mark marks round k ≡ true → (s : Node) × (f k ≡ Some s)

-- the children of a kept node are kept
abbrev pub IsClosed : (ℕ → Option Node) → List ℕ → ℕ → Type 0
IsClosed f marks round = (h : ℕ) (s : Node) → f h ≡ Some s → has_mark marks round h ≡ true → (is_kept marks round s.low ≡ true) × (is_kept marks round s.high ≡ true)

-- marks stay, and what is marked anew stands in the tree of a marked number
pub record Spreads (f : ℕ → Option Node) (old new : List ℕ) (round : ℕ) : Type 0 where
  pub grows : (k : ℕ) → has_mark old round k ≡ true → has_mark new round k ≡ true
  pub only : (k : ℕ) → has_mark new round k ≡ true → (r : ℕ) × (has_mark old round r ≡ true) × (is_member tree_eq (branches (tree_at f r)) (tree_at f k) ≡ true)

-- from a number on, what isn't kept has no node any more
abbrev pub swept_from : (ℕ → Option Node) → List ℕ → ℕ → ℕ → ℕ → Option Node
swept_from f marks round at h = if nat_le at h && not (is_kept marks round h) then None else f h

-- what is marked is the nodes of the roots' trees
pub record MarksTrees (f : ℕ → Option Node) (marks : List ℕ) (round : ℕ) (roots more : List ℕ) : Type 0 where
  pub nodes : MarksNodes f marks round
  pub closed : IsClosed f marks round
  pub roots_kept : (j : ℕ) → j < length roots → is_kept marks round (slice_index_or roots j 0) ≡ true
  pub more_kept : (j : ℕ) → j < length more → is_kept marks round (slice_index_or more j 0) ≡ true
  pub only : (k : ℕ) → has_mark marks round k ≡ true →
      ((j : ℕ) × (j < length roots) × (is_member tree_eq (branches (tree_at f (slice_index_or roots j 0))) (tree_at f k) ≡ true)) ⊎
      ((j : ℕ) × (j < length more) × (is_member tree_eq (branches (tree_at f (slice_index_or more j 0))) (tree_at f k) ≡ true))
