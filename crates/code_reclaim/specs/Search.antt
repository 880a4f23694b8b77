-- What a walk below a handle strikes, and what it leaves of the marks.
use Rattle.std.specs.Prelude.{◌≡◌, ◌⊎◌, ℕ, ◌+◌, ◌<◌, ◌≤◌, Bool, true, false, not, List, ◌∷◌, length}
use Rattle.std.specs.List.{count_by}
use Rattle.node_tree.specs.Tree.{Tree, Branch, top}
use Rattle.node_table.specs.Table.{Table, tree_of, IsValid, is_marked, numbers}
use Rattle.code_reclaim.specs.Told.{differs}
use Rattle.code_reclaim.specs.Candidates.{is_candidate}

-- a node above a level, with its children
pub record HasChildren (t : Table) (h level low high : ℕ) : Type 0 where
  pub at : ℕ
  pub above : at < level
  pub tree : tree_of t h ≡ Branch at (tree_of t low) (tree_of t high)
  pub low_valid : IsValid t low
  pub high_valid : IsValid t high

-- the leaves, and the numbers that have a node
abbrev pub handles : Table → List ℕ
handles t = 0 ∷ 1 ∷ numbers t

-- how many of them aren't marked
abbrev pub unmarked : Table → ℕ
unmarked t = count_by (λ h. not (is_marked t h)) (handles t)

-- of the marked handles, those whose trees begin at this level or below fail the test
abbrev pub IsClear : (Tree → Bool) → ℕ → Table → Type 0
IsClear test level t = (k : ℕ) → is_marked t k ≡ true → level ≤ top (tree_of t k) → test (tree_of t k) ≡ false

-- the answer is the test of the handle's tree; where it is no, each handle marked anew fails the test; nothing else changes
pub record Searches (test : Tree → Bool) (h : ℕ) (old new : Table) (found : Bool) : Type 0 where
  pub room : new.room ≡ old.room
  pub nodes : new.nodes ≡ old.nodes
  pub answer : found ≡ test (tree_of old h)
  pub marks : found ≡ false → (k : ℕ) → is_marked new k ≡ true → (is_marked old k ≡ true) ⊎ (test (tree_of old k) ≡ false)

-- the marked handles that begin at this level or below tell no candidate apart
abbrev pub AreClear : (first bits from : ℕ) → List Bool → ℕ → Table → Type 0
AreClear first bits from candidates level t = (i : ℕ) → is_candidate candidates i ≡ true → IsClear (differs first bits (from + i)) level t

-- the walk is a search for each candidate, struck where it is found
pub record Strikes (first bits from h : ℕ) (old new : Table) (before after : List Bool) : Type 0 where
  pub room : new.room ≡ old.room
  pub nodes : new.nodes ≡ old.nodes
  pub count : length after ≡ length before
  pub others : (i : ℕ) → is_candidate before i ≡ false → is_candidate after i ≡ false
  pub codes : (i : ℕ) → is_candidate before i ≡ true → Searches (differs first bits (from + i)) h old new (not (is_candidate after i))
