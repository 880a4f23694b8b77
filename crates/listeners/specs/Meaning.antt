-- What a listener means, and what one call makes of it.
use Rattle.std.specs.Prelude.{◌≡◌, ℕ, ◌≤◌, Bool, true, List, Option, None, Some, ⊤}
use Rattle.mon_base.specs.Causes.{Rose}
use Rattle.mon_base.specs.Told.{Gains}

-- what listeners of a type mean: the ghost members of the trait, each as a function of a listener
pub record Meaning (B T : Type 0) : Type 0 where
  pub name : B → List ℕ
  pub told : B → Option (List T)
  pub finished : B → Option Bool
  pub faults : B → ℕ

-- the meaning that has these members
abbrev pub meaning_of : {B T : Type 0} → (B → List ℕ) → (B → Option (List T)) → (B → Option Bool)
    → (B → ℕ) → Meaning B T
meaning_of name told finished faults =
    record { name = name; told = told; finished = finished; faults = faults }

-- a truth that is told becomes true
abbrev pub BecomesTrue : Option Bool → Option Bool → Type 0
BecomesTrue None now = ⊤
BecomesTrue (Some was) now = now ≡ Some true

-- a listener was told x
pub record TellSucceeds {B T : Type 0} (m : Meaning B T) (x : T) (old new : B) : Type 0 where
  pub name : m.name new ≡ m.name old
  pub told : Gains (m.told old) (m.told new) x
  pub finished : m.finished new ≡ m.finished old
  pub later : m.faults old ≤ m.faults new

-- a listener was finished
pub record FinishSucceeds {B T : Type 0} (m : Meaning B T) (old new : B) : Type 0 where
  pub name : m.name new ≡ m.name old
  pub told : m.told new ≡ m.told old
  pub finished : BecomesTrue (m.finished old) (m.finished new)
  pub later : m.faults old ≤ m.faults new

-- a call of a listener failed, so its count of faults rose
pub record CallFails {B T : Type 0} (m : Meaning B T) (old new : B) : Type 0 where
  pub name : m.name new ≡ m.name old
  pub told : m.told new ≡ m.told old
  pub finished : m.finished new ≡ m.finished old
  pub later : m.faults old ≤ m.faults new
  pub rose : Rose (m.faults old) (m.faults new)

-- a call of a listener had no memory, and left what it means
pub record LacksMemory {B T : Type 0} (m : Meaning B T) (old new : B) : Type 0 where
  pub name : m.name new ≡ m.name old
  pub told : m.told new ≡ m.told old
  pub finished : m.finished new ≡ m.finished old
  pub faults : m.faults new ≡ m.faults old
