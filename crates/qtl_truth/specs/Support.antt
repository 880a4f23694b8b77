-- The positions that a formula looks back to.
use Rattle.std.specs.Prelude.{ℕ, List}
use Rattle.qtl_syntax.specs.Tree.{Formula, Since, TimedSince, Once, TimedOnce, Interval, Item}
use Rattle.qtl_truth.specs.declared.event.Event.{Event}
use Rattle.qtl_truth.specs.Truth.{Assignment, Claim, IsWithin, After, NeverFrom, Holds}

-- the formula is one that holds where some position supports it
abbrev pub HasSupport : Formula → Type 0
HasSupport (Since f g) = Unit {0}
HasSupport (TimedSince b f g) = Unit {0}
HasSupport (Once f) = Unit {0}
HasSupport (TimedOnce b f) = Unit {0}
HasSupport (Interval f g) = Unit {0}
HasSupport _ = ⊥

-- position j supports the formula at i
abbrev pub Supports : List Item → List Event → Assignment → Formula → ℕ → Claim
Supports before log nu (Since f g) i j = Holds before log j nu g × After j (λ k. Holds before log k nu f) i
Supports before log nu (TimedSince b f g) i j = IsWithin b log i j × Holds before log j nu g × After j (λ k. Holds before log k nu f) i
Supports before log nu (Once f) i j = Holds before log j nu f
Supports before log nu (TimedOnce b f) i j = IsWithin b log i j × Holds before log j nu f
Supports before log nu (Interval f g) i j = Holds before log j nu f × NeverFrom j (λ k. Holds before log k nu g) i
Supports before log nu _ i j = ⊥
