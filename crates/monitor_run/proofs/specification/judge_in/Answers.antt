use Rattle.std.proofs.Common.{◌≡◌, ◌≤◌, ◌∙◌, List, [], length, refl, sym, ap, subst, arith}
use Rattle.qtl_syntax.specs.Tree.{Text, Item, items_of}
use Rattle.subformulas.specs.Numbering.{all_numbered, roots}
use Rattle.subformulas.specs.Table as table
use Rattle.wellformed.specs.CoreTree.{CoreFormula}
use Rattle.wellformed.specs.Expansion.{expanded_props}
use Rattle.wellformed.specs.Kept.{AreKept}
use Rattle.settings.specs.Asked.{asked_by}
use Rattle.monitor_run.specs.Standing.{IsPlanOf}
use Rattle.run_model.specs.Limits.{table_in, variables_in}
use Rattle.monitor_run.proofs.Accepting.FewTerms.{plan_few}
use Rattle.monitor_run.proofs.Accepting.Specifications.{judge_stands}
use Rattle.monitor_run.proofs.specification.judge_in.Goals as goal

pub open-requires-clause-few_terms : goal.open-requires-clause-few_terms
open-requires-clause-few_terms c =
    let items : List Item = items_of c.in-Ok.spec in
    let plan : table.Table = c.in-Ok-make_plan.plan in
    let rows : plan.subs ≡ table_in items = c.in-Ok-make_plan.ensures.table ∙ ap (all_numbered 0) c.in-Ok-check.ensures.props in
    plan_few (expanded_props [] 0 items) plan (c.short_texts_have_few_terms.ensures c.args.text.now items c.requires.short c.in-Ok.ensures.ok) rows

pub returns-in-Ok-open-clause-ok : goal.returns-in-Ok-open-clause-ok
returns-in-Ok-open-clause-ok c =
    let items : List Item = items_of c.in-Ok.spec in
    let plan : table.Table = c.in-Ok-make_plan.plan in
    let rows : plan.subs ≡ table_in items = c.in-Ok-make_plan.ensures.table ∙ ap (all_numbered 0) c.in-Ok-check.ensures.props in
    let variables : plan.variables ≡ variables_in items = c.in-Ok-make_plan.ensures.variables ∙ c.in-Ok-check.ensures.variables in
    let is : IsPlanOf items plan = record {
      sound = c.count-rows.ensures.sound;
      variables = variables;
      subs = rows;
      props = c.in-Ok-make_plan.ensures.roots ∙ ap (roots 0) c.in-Ok-check.ensures.props;
      kept = λ log nu long. subst (λ (ps : List (Text × CoreFormula)). AreKept log nu [] items ps) (sym c.in-Ok-make_plan.ensures.props)
          (c.in-Ok-check.ensures.kept log nu (subst (λ vs. length vs ≤ length nu) c.in-Ok-make_plan.ensures.variables long));
    } in
    record {
      items = items;
      spelled = c.in-Ok.ensures.ok;
      clear = c.in-Ok-check.ensures.accepted refl;
      judged = judge_stands (asked_by c.args.settings.now) items _ (subst (λ (p : table.Table). IsPlanOf items p) (sym c.in-Ok-open.ensures.plan) is)
          (record { bits = c.in-Ok-open.ensures.bits; nodes = c.in-Ok-open.ensures.room; cache = c.in-Ok-open.ensures.entries }) refl c.is_live-live.ensures.sound (c.is_live-live.ensures.alive (c.is_live-live.ensures.is ∙ c.in-Ok-open.ensures.stands.live)) c.in-Ok-open.ensures.stands refl refl;
    }

pub returns-in-Ok-open-clause-ready : goal.returns-in-Ok-open-clause-ready
returns-in-Ok-open-clause-ready c =
    let stands = c.in-Ok-open.ensures.stands in
    record { live = stands.live; events = stands.events; fewer = omega arith }
