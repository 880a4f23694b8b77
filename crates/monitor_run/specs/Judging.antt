-- What an event does to a judge, and what is written of it.
use Rattle.std.specs.Prelude.{◌≡◌, ⊤, ℕ, ◌+◌, ◌*◌, ◌≤◌, List, [], ◌∷◌, ◌++◌, length, Option, Some, None, Result, Ok, Err}
use Rattle.std.specs.List.{sum_by}
use Rattle.mon_base.specs.Told.{AppendsFront}
use Rattle.qtl_syntax.specs.Tree.{Text}
use Rattle.qtl_truth.specs.declared.event.Event.{Event}
use Rattle.monitor_model.specs.Ends as event_end
use Rattle.monitor_model.specs.State.{State, setting_of}
use Rattle.monitor_step.specs.Monitor.{step_bound}
use Rattle.monitor_step.specs.declared.monitor.StepEnd.{StepEnd}
use Rattle.monitor_step.specs.declared.monitor.StepEnd.TheVariants as step_end
use Rattle.report.specs.Lines.{event_lines}
use Rattle.report.specs.Passing.{Passes}
use Rattle.report.specs.Verdicts.{Verdict, True, False, false_in}
use Rattle.report.specs.declared.shown.Shown.{Shown}
use Rattle.run_model.specs.Walk.{stop_at}
use Rattle.monitor_run.specs.Standing.{StandsFor, names_in, row_of}
use Rattle.witness.specs.Turns.{find_bound}
use Rattle.monitor_run.specs.declared.judge.Judge.{Judge}
use Rattle.run_model.specs.declared.stop.Halt.{Halt}
use Rattle.run_model.specs.declared.stop.Halt.TheVariants.{At, Lost}
use Rattle.run_model.specs.declared.stop.LogStop.{LogStop}
use Rattle.run_model.specs.declared.stop.LogStop.TheVariants.{CodesFull, NodesFull}
use Rattle.run_model.specs.declared.stop.Loss.TheVariants.{Cut, Starved}

-- what comes at event e behind these events, with plan and sizes of the monitor
abbrev pub ComesTo : State → List Event → Event → Option event_end.End → Type 0
ComesTo m log e end = event_end.IsEnd (setting_of m) log (length log) e end

-- how a run gives up whose event of this number the monitor refuses
abbrev pub halt_of_step : ℕ → StepEnd → Halt LogStop
halt_of_step event (step_end.CodesFull variable need) = At (CodesFull event variable need)
halt_of_step event (step_end.NodesFull subformula row) = At (NodesFull event subformula row)
halt_of_step event step_end.NoMemory = Lost Starved

-- the monitor takes event e behind these events, or can't judge it
abbrev pub Judges : (old new : Judge) → List Event → Event → Result Unit (Halt LogStop) → Type 0
Judges old new log e (Ok u) =
    ComesTo old.monitor log e None × StandsFor new.monitor (log ++ e ∷ [])
Judges old new log e (Err (Lost Cut)) =
    ComesTo old.monitor log e None × StandsFor new.monitor (log ++ e ∷ [])
Judges old new log e (Err (Lost Starved)) = ⊤
Judges old new log e (Err (At stop)) =
    (why : event_end.End) × (stop ≡ stop_at (old.events + 1) why)
    × ComesTo old.monitor log e (Some why)

-- the witnesses of the false ones among verdicts
abbrev pub witnesses_in : List Verdict → List (List Shown)
witnesses_in [] = []
witnesses_in (True ∷ row) = witnesses_in row
witnesses_in (False witness ∷ row) = witness ∷ witnesses_in row

-- how many steps an event costs at most: those of the monitor, and those of its witnesses
abbrev pub witness_bound : State → ℕ
witness_bound m = sum_by (λ q. find_bound m q.root) m.plan.props

abbrev pub judge_bound : State → ℕ
judge_bound m = step_bound m + witness_bound m

-- the lines of the event that came last
abbrev pub last_lines : Judge → Text
last_lines j = event_lines j.shows_true j.events (names_in j.monitor) (row_of j.monitor)

-- nothing was judged, written or held back
abbrev pub StaysAsItWas : (old new : Judge) (sent0 sent1 : Option Text) (held0 held1 : Text) →
    Type 0
StaysAsItWas old new sent0 sent1 held0 held1 =
    (new.events ≡ old.events) × (new.violations ≡ old.violations)
    × (sent1 ≡ sent0) × (held1 ≡ held0)

-- how the event and its violations are counted, and what is written of it
abbrev pub WritesEvent : (old new : Judge) (sent0 sent1 : Option Text) (held0 held1 : Text) →
    Result Unit (Halt LogStop) → Type 0
WritesEvent old new sent0 sent1 held0 held1 (Ok u) =
    (new.events ≡ old.events + 1)
    × (new.violations ≡ old.violations + false_in (row_of new.monitor))
    × Passes sent0 sent1 held0 held1 (last_lines new)
WritesEvent old new sent0 sent1 held0 held1 (Err (Lost Cut)) =
    (new.events ≡ old.events + 1) × AppendsFront sent0 sent1 (held0 ++ last_lines new)
WritesEvent old new sent0 sent1 held0 held1 (Err (Lost Starved)) =
    StaysAsItWas old new sent0 sent1 held0 held1
WritesEvent old new sent0 sent1 held0 held1 (Err (At stop)) =
    StaysAsItWas old new sent0 sent1 held0 held1

-- so many steps were counted while the judged events went from one number to another, where an
-- event costs at most the bound
abbrev pub Spends : (bound from to before after : ℕ) → Type 0
Spends bound from to before after = after + bound * from ≤ before + bound * to
