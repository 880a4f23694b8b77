-- The text of a run: the lines of the judged events, and the last line.
use Rattle.std.specs.Prelude.{◌≡◌, ℕ, List, [], ◌++◌, Bool, Option, Some, None, unwrap_or}
use Rattle.qtl_syntax.specs.Tree.{Text, Item}
use Rattle.report.specs.LastLines.{usage_line, unopened_line, unread_line, long_spec_line, fault_line, name_line, end_line, log_line, long_log_line, codes_line, nodes_line}
use Rattle.report.specs.Lines.{report_lines}
use Rattle.report.specs.Verdicts.{Verdict}
use Rattle.report.specs.declared.which.Which.TheVariants as file
use Rattle.wellformed.specs.declared.core_formula.Variable.{Variable}
use Rattle.run_model.specs.Limits.{variables_in, name_in}
use Rattle.run_model.specs.Verdicts.{properties, names}
use Rattle.run_model.specs.declared.stop.SpecStop.{SpecStop}
use Rattle.run_model.specs.declared.stop.SpecStop.TheVariants as spec_stop
use Rattle.run_model.specs.declared.stop.LogStop.{LogStop}
use Rattle.run_model.specs.declared.stop.LogStop.TheVariants.{Unopened, Unread, Whole, Fault, Long, CodesFull, NodesFull}
use Rattle.run_model.specs.declared.stop.Stop.{Stop}
use Rattle.run_model.specs.declared.stop.Stop.TheVariants.{Misused, Spec, Log}
use Rattle.run_model.specs.declared.stop.Course.{Course}
use Rattle.run_model.specs.declared.stop.Course.TheVariants.{Came, Lost}

-- the last line where the specification gave no judge
abbrev pub spec_stop_line : SpecStop → Text
spec_stop_line spec_stop.Unopened = unopened_line file.Spec
spec_stop_line spec_stop.Unread = unread_line file.Spec
spec_stop_line spec_stop.TooLong = long_spec_line
spec_stop_line (spec_stop.Fault fault) = fault_line fault
spec_stop_line (spec_stop.Names fault) = name_line fault

-- and where the log ended so, behind so many events and false verdicts
abbrev pub log_stop_line : List Variable → (events violations : ℕ) → LogStop → Text
log_stop_line variables events violations Unopened = unopened_line file.Log
log_stop_line variables events violations Unread = unread_line file.Log
log_stop_line variables events violations Whole = end_line events violations
log_stop_line variables events violations (Fault fault) = log_line fault
log_stop_line variables events violations (Long limit) = long_log_line limit
log_stop_line variables events violations (CodesFull event variable need) =
    codes_line event variable need (unwrap_or (name_in variables variable) [])
log_stop_line variables events violations (NodesFull event subformula row) =
    nodes_line event subformula row

abbrev pub stop_line : List Variable → (events violations : ℕ) → Stop → Text
stop_line variables events violations Misused = usage_line
stop_line variables events violations (Spec stop) = spec_stop_line stop
stop_line variables events violations (Log stop) =
    log_stop_line variables events violations stop

-- the last line, once a run came to a stop
abbrev pub last_text : List Variable → (events violations : ℕ) → Option Stop → Text
last_text variables events violations None = []
last_text variables events violations (Some stop) = stop_line variables events violations stop

-- the lines of the judged events, those of true verdicts where all are asked for, and the last line
abbrev pub text_of_run : (all : Bool) → List Item → (rows : List (List Verdict)) →
    (events violations : ℕ) → Option Stop → Text
text_of_run all items rows events violations stop =
    report_lines all 1 (names (properties items)) rows
    ++ last_text (variables_in items) events violations stop

-- what was written is the text, or a front of it where some was lost
abbrev pub IsSentOf : Course → (sent text : Text) → Type 0
IsSentOf (Came stop) sent text = sent ≡ text
IsSentOf (Lost loss stop) sent text = (rest : Text) × (text ≡ sent ++ rest)
