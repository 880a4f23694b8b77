-- What the functions of src/laws.rt show.
use Rattle.std.specs.Prelude.{◌≡◌, ℕ, List, length, true, false}
use Rattle.std.specs.List.{Any}
use Rattle.qtl_truth.specs.Truth.{IsLog}
use Rattle.qtl_truth.specs.declared.event.Event.{Event}
use Rattle.monitor_model.specs.State.{State, IsLive, IsMonitor, Stands, verdict_at}
use Rattle.report.specs.Witness.{IsWitness}
use Rattle.witness.specs.Finding.{witness_of}

-- what is found of a false property is its witness, for each log for which the monitor stands
abbrev pub WitnessesHold : Type 0
WitnessesHold =
    (m : State) (log : List Event) (k : ℕ) →
    IsMonitor m → IsLive m → IsLog log → Stands m log → m.has_now ≡ true →
    Any (λ p. p.root ≡ k) m.plan.props → verdict_at m k ≡ false →
    IsWitness m.plan log (length log) k (witness_of m k)
