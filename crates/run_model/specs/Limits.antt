-- How large a run may be, and when an event of a log can't be judged within that.
use Rattle.std.specs.Prelude.{ℕ, ◌+◌, ◌*◌, ◌^◌, ◌≤◌, List, [], length, Option, slice_get}
use Rattle.std.specs.List.{sum_by}
use Rattle.std.specs.Option.{option_map}
use Rattle.qtl_syntax.specs.Tree.{Text, Item}
use Rattle.qtl_truth.specs.declared.event.Event.{Event}
use Rattle.wellformed.specs.Expansion.{expanded_props, props_variables}
use Rattle.wellformed.specs.declared.core_formula.Variable.{Variable}
use Rattle.subformulas.specs.Numbering.{all_numbered, roots}
use Rattle.subformulas.specs.OperationRows.{rows_of}
use Rattle.subformulas.specs.Table.{Table}
use Rattle.subformulas.specs.Unfolded.{formula_at}
use Rattle.subformulas.specs.declared.table.Sub.{Sub}
use Rattle.monitor_model.specs.Ends as event_end
use Rattle.monitor_model.specs.Setting.{Setting}
use Rattle.monitor_model.specs.State.{temporal_count}
use Rattle.report.specs.Witness.{chain}
use Rattle.run_model.specs.Job.{Job}

-- the variables of a specification, and the table of its subformulas
abbrev pub variables_in : List Item → List Variable
variables_in items = props_variables [] 0 items

abbrev pub table_in : List Item → List Sub
table_in items = all_numbered 0 (expanded_props [] 0 items)

-- the plan of a specification: these, and its properties with the numbers of their formulas
abbrev pub plan_in : List Item → Table
plan_in items = record {
  variables = variables_in items;
  subs = table_in items;
  props = roots 0 (expanded_props [] 0 items);
}

-- the name of variable x
abbrev pub name_in : List Variable → ℕ → Option Text
name_in variables x = option_map (λ v. v.name) (slice_get variables x)

-- what a monitor of the specification is set up with
abbrev pub setting_in : Job → List Item → Setting
setting_in job items = record {
  bits = job.bits;
  nodes = job.nodes;
  variables = length (variables_in items);
  subs = table_in items;
}

-- what comes at event e behind these events: nothing, or why it can't be judged
abbrev pub ComesAt :
    Job → List Item → List Event → Event → Option event_end.End → Type 0
ComesAt job items log e end = event_end.IsEnd (setting_in job items) log (length log) e end

-- the cache has room for each pair of nodes
abbrev pub IsAmple : Job → Type 0
IsAmple job = (job.nodes + 2) * (job.nodes + 3) ≤ job.cache

-- how many steps the judging of an event costs at most: six for each pair of nodes in each row, and
-- for each variable, temporal subformula and node those of a walk for each code
abbrev pub judging_bound : Job → List Item → ℕ
judging_bound job items =
    6 * sum_by (λ s. rows_of s.kind job.bits) (table_in items)
    * ((job.nodes + 2) * (job.nodes + 2))
    + length (variables_in items) * temporal_count (table_in items)
    * ((job.nodes + 2) * (2 * job.bits + 3) * 2 ^ job.bits)

-- and its witnesses: for each variable of a `forall` at the top of a property those of a walk for
-- each code
abbrev pub witness_bound : Job → List Item → ℕ
witness_bound job items =
    sum_by
    (λ q. length (chain (formula_at (table_in items) q.root))
    * ((job.bits + 1) * 2 ^ job.bits))
    (plan_in items).props

abbrev pub event_bound : Job → List Item → ℕ
event_bound job items = judging_bound job items + witness_bound job items
