use Rattle.std.proofs.Common.{◌∙◌, ℕ, ◌+◌, ◌++◌, ap}
use Rattle.std.specs.Prelude.{replicate}
use Rattle.monitor_step.specs.Handles.{first_handles}
use Rattle.monitor_step.proofs.Rows.Kept.{are_first}
use Rattle.monitor_step.proofs.remember.first_handles.Goals as goal

pub returns : goal.returns
returns c =
    let subs = c.args.plan.now.subs in
    let F = first_handles c.zero-zero.result c.one-one.result subs in
    let once = c.in_ok-add_first.ensures ∙ ap (λ hs. hs ++ F) c.in_ok-handles.ensures.items in
    let twice = c.in_ok-add_first-2.ensures ∙ ap (λ hs. hs ++ F) once in
    let all = c.in_ok-add_times.ensures ∙ (ap (λ hs. hs ++ replicate (c.count-count.result + 3) c.zero-zero.result) twice ∙ ap (λ (n : ℕ). (F ++ F) ++ replicate (n + 3) c.zero-zero.result) c.count-count.ensures.count) in
    are_first c.zero-zero.result c.one-one.result c.args.table.now (c.zero-zero.ensures.valid, c.zero-zero.ensures.tree) (c.one-one.ensures.valid, c.one-one.ensures.tree) subs
    c.add_times.new.handles.items all
