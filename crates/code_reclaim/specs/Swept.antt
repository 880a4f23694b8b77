-- What a sweep leaves of a book.
use Rattle.std.specs.Prelude.{◌≡◌, ℕ, ◌<◌, ◌≤◌, Bool, ◌||◌, List, Option, Some, None, nat_eq, if◌then◌else◌}
use Rattle.std.specs.List.{list_any}
use Rattle.qtl_syntax.specs.Tree.{Text}
use Rattle.node_tree.specs.Tree.{Tree}
use Rattle.value_codes.specs.Pairs.{Pairs, code_of, value_of}
use Rattle.code_reclaim.specs.Told.{told_apart}

-- whether a code stands in a list
abbrev pub stands_in : List ℕ → ℕ → Bool
stands_in codes c = list_any (λ d. nat_eq d c) codes

-- whether a code stays: it is told apart, or needed
abbrev pub stays : List Tree → (first bits : ℕ) → List ℕ → ℕ → Bool
stays trees first bits needed c = told_apart trees first bits c || stands_in needed c

-- a text's code, where it stays
abbrev pub kept_code : (ℕ → Bool) → Option ℕ → Option ℕ
kept_code kept None = None
kept_code kept (Some c) = if kept c then Some c else None

-- the later pairs are the earlier ones whose codes stay
pub record Keeps (kept : ℕ → Bool) (before after : Pairs) : Type 0 where
  pub values : (c : ℕ) → value_of after c ≡ (if kept c then value_of before c else None)
  pub codes : (t : Text) → code_of after t ≡ kept_code kept (code_of before t)

-- so they are within a range of codes, and elsewhere as before
pub record KeepsWithin (kept : ℕ → Bool) (from to : ℕ) (before after : Pairs) : Type 0 where
  pub below : (c : ℕ) → c < from → value_of after c ≡ value_of before c
  pub within : (c : ℕ) → from ≤ c → c < to → value_of after c ≡ (if kept c then value_of before c else None)
  pub above : (c : ℕ) → to ≤ c → value_of after c ≡ value_of before c
