use Rattle.std.proofs.Common.{rules, ap₂, ◌≡◌, ◌∙◌}
use Rattle.clap.specs.Words.{rule_of, with_rule}
use Rattle.settings.specs.Command.{dejavu, all_rule, spec_rule, log_rule}
use Rattle.settings.proofs.command.dejavu_command.Goals as goal

pub returns : goal.returns
unfolding dejavu
returns c =
    let all_is : rule_of c.action-all.result ≡ all_rule = search rules in
    let spec_is : rule_of c.required-spec.result ≡ spec_rule = search rules in
    let log_is : rule_of c.action-log.result ≡ log_rule = search rules in
    c.in_ok-third.ensures.shape (search rules)
    ∙ ap₂ with_rule (c.in_ok-second.ensures.shape (search rules)
    ∙ ap₂ with_rule (c.in_ok-first.ensures.shape (search rules)
    ∙ ap₂ with_rule c.in_ok-start.ensures all_is) spec_is) log_is
