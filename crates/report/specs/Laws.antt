-- Laws of the rule of witnesses.
use Rattle.std.specs.Prelude.{◌≡◌, ℕ, ◌≤◌, List}
use Rattle.qtl_truth.specs.Laws.{SameTo}
use Rattle.qtl_truth.specs.declared.event.Event.{Event}
use Rattle.subformulas.specs.Table.{Table}
use Rattle.report.specs.Witness.{IsWitness}
use Rattle.report.specs.declared.shown.Shown.{Shown}

-- at most one list is the witness
abbrev pub OneWitness : Type 0
OneWitness =
    (t : Table) (log : List Event) (i k : ℕ) (shown other : List Shown) →
    IsWitness t log i k shown → IsWitness t log i k other → shown ≡ other

-- it rests on the events up to the one at hand alone
abbrev pub WitnessStays : Type 0
WitnessStays =
    (t : Table) (log log' : List Event) (i k : ℕ) (shown : List Shown) → 1 ≤ i →
    SameTo i log log' → IsWitness t log i k shown → IsWitness t log' i k shown
