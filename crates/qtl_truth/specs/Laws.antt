-- The statement of the one law of truth that the layers above rest on.
use Rattle.std.specs.Prelude.{◌≡◌, ℕ, ◌≤◌, ◌↔◌, List}
use Rattle.qtl_syntax.specs.Tree.{Formula, Item}
use Rattle.qtl_truth.specs.declared.event.Event.{Event}
use Rattle.qtl_truth.specs.Truth.{Assignment, event_at, Holds}

-- two logs have the same events at the positions from 1 to n
pub record SameTo (n : ℕ) (log log' : List Event) : Type 0 where
  pub events : (i : ℕ) → 1 ≤ i → i ≤ n → event_at log i ≡ event_at log' i

-- events after i change nothing at i: logs that agree up to n agree on each formula at each position up to n
abbrev pub PastDecides : Type 0
PastDecides =
    (n : ℕ) (log log' : List Event) → SameTo n log log' → (before : List Item) (i : ℕ) (nu : Assignment) (f : Formula) →
    1 ≤ i → i ≤ n → Holds before log i nu f ↔ Holds before log' i nu f
