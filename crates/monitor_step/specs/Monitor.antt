-- What a step answers, and what it costs.
use Rattle.std.specs.Prelude.{◌≡◌, ◌≢◌, ℕ, ◌+◌, ◌*◌, ◌^◌, ◌<◌, length, true, Option, Some, None, Result, Ok, Err}
use Rattle.std.specs.List.{AllByRecursion, sum_by}
use Rattle.qtl_syntax.specs.Tree.{Text}
use Rattle.qtl_truth.specs.declared.event.Event.{Event}
use Rattle.value_codes.specs.Pairs.{code_of}
use Rattle.subformulas.specs.NeedList.{HasFewVariables}
use Rattle.subformulas.specs.Needs.{need}
use Rattle.subformulas.specs.OperationRows.{rows_of}
use Rattle.subformulas.specs.Table.{Table}
use Rattle.subformulas.specs.Texts.{Has}
use Rattle.monitor_model.specs.Ends.{End, CodesFull, NodesFull}
use Rattle.monitor_model.specs.Shape.{AreMemories, AreResults}
use Rattle.monitor_model.specs.State.{State, kept, memory_of, now_of, pairs_in, setting_of}
use Rattle.monitor_step.specs.declared.monitor.StepEnd.{StepEnd}
use Rattle.monitor_step.specs.declared.monitor.StepEnd.TheVariants as step_end

-- what a monitor remembers, and its trees at the last event if there was one: levels of free variables
-- alone, ages within their bounds, and a code without a pair reads like all ones
pub record HasShape (m : State) : Type 0 where
  pub memory : AreMemories (setting_of m) (pairs_in m) (memory_of m)
  pub now : m.has_now ≡ true → AreResults (setting_of m) (pairs_in m) (now_of m)

abbrev pub variables_of : State → ℕ
variables_of m = length m.plan.variables

-- something holds of what came of an event: of nothing, where it was judged, or of why it was refused; of want of memory
-- nothing is said
abbrev pub MatchEnd : Result Unit StepEnd → (Option End → Type 0) → Type 0
MatchEnd (Ok u) P = P None
MatchEnd (Err (step_end.CodesFull x n)) P = P (Some (CodesFull x n))
MatchEnd (Err (step_end.NodesFull k r)) P = P (Some (NodesFull k r))
MatchEnd (Err step_end.NoMemory) P = Unit {0}

-- each text that the event gives to a variable has a code there
abbrev pub HasCodesFor : State → Event → Type 0
HasCodesFor m e =
    (x : ℕ) (t : Text) → x < variables_of m → Has (need m.plan.subs x e) t →
    code_of (pairs_in m x) t ≢ None

-- no atom of the plan has more than eight variables
abbrev pub HasSmallAtoms : Table → Type 0
HasSmallAtoms plan = AllByRecursion (λ s. HasFewVariables s.kind) plan.subs

-- how many steps an event takes at most, where the memo has room for all: six for each pair of nodes in each row, and for each
-- variable, temporal subformula and node those of a walk for each code
abbrev pub step_bound : State → ℕ
step_bound m =
    6 * sum_by (λ s. rows_of s.kind m.bits) m.plan.subs * ((m.shelf.table.room + 2) * (m.shelf.table.room + 2))
    + variables_of m * kept m * ((m.shelf.table.room + 2) * (2 * m.bits + 3) * 2 ^ m.bits)
