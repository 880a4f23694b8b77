-- What a judge stands for after the events of a log.
use Rattle.std.specs.Prelude.{◌≡◌, ◌≤◌, ◌*◌, List, [], map, length, Bool, true, if◌then◌else◌}
use Rattle.std.specs.List.{list_any}
use Rattle.qtl_syntax.specs.Tree.{Text, Item}
use Rattle.qtl_truth.specs.Truth.{IsLog}
use Rattle.qtl_truth.specs.declared.event.Event.{Event}
use Rattle.wellformed.specs.Kept.{AreKept}
use Rattle.subformulas.specs.Table as table
use Rattle.subformulas.specs.Unfolded.{props_at}
use Rattle.subformulas.specs.declared.table.PlanProp.{PlanProp}
use Rattle.monitor_model.specs.State as monitor
use Rattle.report.specs.Verdicts.{Verdict, True, False, false_count}
use Rattle.run_model.specs.Limits.{ComesAt, plan_in, table_in, variables_in}
use Rattle.run_model.specs.Verdicts.{AreVerdicts}
use Rattle.run_model.specs.Walk.{AllFit}
use Rattle.witness.specs.Finding.{witness_of}
use Rattle.monitor_run.specs.declared.judge.Judge.{Judge}
use Rattle.run_model.specs.Job.{Job}

-- the monitor's verdict on a property, where it is false with what is found for it
abbrev pub verdict_of : monitor.State → PlanProp → Verdict
verdict_of m q = if monitor.verdict_at m q.root then True else False (witness_of m q.root)

-- the names of the monitor's properties
abbrev pub names_in : monitor.State → List Text
names_in m = map (λ q. q.name) m.plan.props

-- and the verdicts on them at the last event
abbrev pub row_of : monitor.State → List Verdict
row_of m = map (verdict_of m) m.plan.props

-- a row of the plan is a timed operator
abbrev pub has_times : table.Table → Bool
has_times plan = list_any (λ s. table.is_timed s.kind) plan.subs

-- the plan of the monitor is that of the items' properties
pub record IsPlanOf (items : List Item) (plan : table.Table) : Type 0 where
  pub sound : table.IsSound plan
  pub variables : plan.variables ≡ variables_in items
  pub subs : plan.subs ≡ table_in items
  pub props : plan.props ≡ (plan_in items).props
  pub kept : (log : List Event) (nu : List Text) → length plan.variables ≤ length nu →
      AreKept log nu [] items (props_at plan.subs plan.props)

-- the sizes of the monitor are those that the job asks for
pub record HasSizes (job : Job) (m : monitor.State) : Type 0 where
  pub bits : m.bits ≡ job.bits
  pub nodes : m.shelf.table.room ≡ job.nodes
  pub cache : m.shelf.memo.entries ≡ job.cache

-- the monitor stands for these events, which are a log, and is as each live monitor is
pub record StandsFor (m : monitor.State) (log : List Event) : Type 0 where
  pub is_log : IsLog log
  pub sound : monitor.IsMonitor m
  pub live : monitor.IsLive m
  pub stands : monitor.Stands m log
  pub judged : 1 ≤ length log → m.has_now ≡ true

-- The judge of this job has judged these events, at each of which codes and nodes sufficed, with
-- these verdicts: its monitor stands for them, and it has counted them.
pub record HasJudged (job : Job) (items : List Item) (log : List Event)
    (rows : List (List Verdict)) (judge : Judge) : Type 0 where
  pub plan : IsPlanOf items judge.monitor.plan
  pub sizes : HasSizes job judge.monitor
  pub shows : judge.shows_true ≡ job.all
  pub stands : StandsFor judge.monitor log
  pub fits : AllFit (ComesAt job items) log
  pub right : AreVerdicts log items rows
  pub events : judge.events ≡ length log
  pub violations : judge.violations ≡ false_count rows

-- the judge can take an event
pub record IsReady (j : Judge) : Type 0 where
  pub live : j.monitor.live ≡ true
  pub events : j.monitor.events ≡ j.events
  pub fewer : j.violations ≤ 4096 * j.events

-- plan and sizes stay, and what is shown
pub record KeepsPlan (old new : Judge) : Type 0 where
  pub shows : new.shows_true ≡ old.shows_true
  pub plan : new.monitor.plan ≡ old.monitor.plan
  pub bits : new.monitor.bits ≡ old.monitor.bits
  pub room : new.monitor.shelf.table.room ≡ old.monitor.shelf.table.room
  pub entries : new.monitor.shelf.memo.entries ≡ old.monitor.shelf.memo.entries
