-- How a run goes: where it stops, what becomes of its text, and which end it answers.
use Rattle.std.specs.Prelude.{ℕ, zero, suc, Bool, true, false, Option, Some}
use Rattle.run_model.specs.declared.end.End.{End}
use Rattle.run_model.specs.declared.end.End.TheVariants as answer
use Rattle.report.specs.declared.which.Which.TheVariants as file
use Rattle.run_model.specs.declared.stop.SpecStop.{SpecStop}
use Rattle.run_model.specs.declared.stop.SpecStop.TheVariants as spec_stop
use Rattle.run_model.specs.declared.stop.LogStop.{LogStop}
use Rattle.run_model.specs.declared.stop.LogStop.TheVariants as log_stop
use Rattle.run_model.specs.declared.stop.Stop.{Stop}
use Rattle.run_model.specs.declared.stop.Stop.TheVariants.{Misused, Spec, Log}
use Rattle.run_model.specs.declared.stop.Loss.TheVariants.{Cut, Starved}
use Rattle.run_model.specs.declared.stop.Course.{Course}
use Rattle.run_model.specs.declared.stop.Course.TheVariants.{Came, Lost}

-- the exit status of an end
abbrev pub status_of : End → ℕ
status_of answer.AllTrue = 0
status_of (answer.Violated count) = 1
status_of answer.Usage = 2
status_of answer.SpecTooLong = 3
status_of (answer.Spec fault) = 3
status_of (answer.Names fault) = 3
status_of (answer.Log fault) = 4
status_of (answer.LogTooLong limit) = 4
status_of (answer.CodesFull event variable need) = 5
status_of (answer.NodesFull event subformula row) = 5
status_of (answer.OpenFault which) = 6
status_of (answer.ReadFault which) = 6
status_of answer.WriteFault = 6
status_of answer.NoMemory = 7

-- the end of a log of which each event was judged, with so many false verdicts
abbrev pub end_of_verdicts : ℕ → End
end_of_verdicts zero = answer.AllTrue
end_of_verdicts (suc n) = answer.Violated (suc n)

-- the end of a run whose specification gave no judge
abbrev pub end_of_spec : SpecStop → End
end_of_spec spec_stop.Unopened = answer.OpenFault file.Spec
end_of_spec spec_stop.Unread = answer.ReadFault file.Spec
end_of_spec spec_stop.TooLong = answer.SpecTooLong
end_of_spec (spec_stop.Fault fault) = answer.Spec fault
end_of_spec (spec_stop.Names fault) = answer.Names fault

-- the end of a run whose log ended so, with so many violations before
abbrev pub end_of_log : (violations : ℕ) → LogStop → End
end_of_log violations log_stop.Unopened = answer.OpenFault file.Log
end_of_log violations log_stop.Unread = answer.ReadFault file.Log
end_of_log violations log_stop.Whole = end_of_verdicts violations
end_of_log violations (log_stop.Fault fault) = answer.Log fault
end_of_log violations (log_stop.Long limit) = answer.LogTooLong limit
end_of_log violations (log_stop.CodesFull event variable need) =
    answer.CodesFull event variable need
end_of_log violations (log_stop.NodesFull event subformula row) =
    answer.NodesFull event subformula row

-- the end of a run that stops so and whose text is written whole
abbrev pub end_of_stop : (violations : ℕ) → Stop → End
end_of_stop violations Misused = answer.Usage
end_of_stop violations (Spec stop) = end_of_spec stop
end_of_stop violations (Log stop) = end_of_log violations stop

-- the end of a run
abbrev pub end_of : (violations : ℕ) → Course → End
end_of violations (Came stop) = end_of_stop violations stop
end_of violations (Lost Cut stop) = answer.WriteFault
end_of violations (Lost Starved stop) = answer.NoMemory

-- the stop that a run came to, if it came to one
abbrev pub stop_in : Course → Option Stop
stop_in (Came stop) = Some stop
stop_in (Lost loss stop) = stop

-- whether a fault of a file stopped the run, and not what the files' bytes say
abbrev pub is_spec_fault : SpecStop → Bool
is_spec_fault spec_stop.Unopened = true
is_spec_fault spec_stop.Unread = true
is_spec_fault _ = false

abbrev pub is_log_fault : LogStop → Bool
is_log_fault log_stop.Unopened = true
is_log_fault log_stop.Unread = true
is_log_fault _ = false

abbrev pub is_fault : Stop → Bool
is_fault Misused = false
is_fault (Spec stop) = is_spec_fault stop
is_fault (Log stop) = is_log_fault stop
