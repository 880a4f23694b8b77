-- What the stages of a step leave before its rows, and the ends of the stages as ends of the step.
use Rattle.std.specs.Prelude.{ℕ, ◌*◌, ◌<◌, ◌≤◌, List, length, Result, Ok, Err, vec_capacity}
use Rattle.qtl_truth.specs.declared.event.Event.{Event}
use Rattle.node_tree.specs.Tree.{Tree}
use Rattle.value_codes.specs.Pairs.{Contents}
use Rattle.subformulas.specs.NeedList.{HasRoom}
use Rattle.subformulas.specs.Needs.{need}
use Rattle.subformulas.specs.Table.{Table}
use Rattle.subformulas.specs.declared.table.Sub.{Sub}
use Rattle.monitor_step.specs.Serving.{IsServed, IsFull, pairs_at}
use Rattle.monitor_step.specs.declared.event_rows.NodesFull.{NodesFull}
use Rattle.monitor_step.specs.declared.lists.Lists.{Lists}
use Rattle.monitor_step.specs.declared.monitor.StepEnd.{StepEnd}
use Rattle.monitor_step.specs.declared.monitor.StepEnd.TheVariants as step
use Rattle.monitor_step.specs.declared.serve.ServeEnd.{ServeEnd}
use Rattle.monitor_step.specs.declared.serve.ServeEnd.TheVariants as serve

-- the end of an event whose variables could not be served
abbrev pub serve_end : ServeEnd → StepEnd
serve_end (serve.CodesFull x n) = step.CodesFull x n
serve_end serve.NoMemory = step.NoMemory

-- the end of an event whose rows could not be made
abbrev pub rows_end : NodesFull → StepEnd
rows_end full = step.NodesFull full.subformula full.row

-- the lists of an event have room for any event
pub record HaveRoom (plan : Table) (lists : Lists) : Type 0 where
  pub needs : HasRoom plan lists.needs
  pub starts : length plan.variables ≤ lists.codes.start_room
  pub codes : length plan.variables * length plan.subs ≤ lists.codes.code_room
  pub coded : length plan.variables * length plan.subs ≤ vec_capacity lists.coded

-- each variable below n was served; the block of variable x has the levels from x * bits on
abbrev pub EachServed :
    (bits : ℕ) → List Sub → Event → (trees : List Tree) → (n : ℕ) → (before after : List Contents) →
    Type 0
EachServed bits subs e trees n before after =
    (x : ℕ) → x < n →
    IsServed trees (x * bits) bits (need subs x e) (pairs_at before x) (pairs_at after x)

-- the variables were served, or the first one that could not be has too few codes; of want of memory
-- nothing is said
abbrev pub AnswersServing :
    (bits : ℕ) → List Sub → Event → (trees : List Tree) → (before after : List Contents) →
    Result Unit ServeEnd → Type 0
AnswersServing bits subs e trees before after (Ok u) =
    EachServed bits subs e trees (length before) before after
AnswersServing bits subs e trees before after (Err (serve.CodesFull x n)) =
    (x < length before) × EachServed bits subs e trees x before after ×
    IsFull trees (x * bits) bits (need subs x e) (pairs_at before x) n
AnswersServing bits subs e trees before after (Err serve.NoMemory) = Unit {0}
