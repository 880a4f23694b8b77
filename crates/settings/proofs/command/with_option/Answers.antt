use Rattle.std.proofs.Common.{rules, ap, ◌≡◌, ◌∙◌}
use Rattle.clap.specs.Words.{app_of, rule_of, with_rule}
use Rattle.settings.specs.Command.{option_rule}
use Rattle.settings.proofs.command.with_option.Goals as goal

pub returns : goal.returns
returns c =
    let rule_is : rule_of c.action-option.result ≡ option_rule c.args.name.now = search rules in
    c.in_ok-longer.ensures.shape (search rules) ∙ ap (with_rule (app_of c.args.command)) rule_is
