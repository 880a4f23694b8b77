use Rattle.std.proofs.Common.{ap, ◌∙◌, codes, true}
use Rattle.clap.specs.Words.{App, with_rule}
use Rattle.clap.specs.Simple.{on_top, app_of_fields}
use Rattle.settings.specs.Command.{option_rule}
use Rattle.settings.proofs.command.options_command.Goals as goal

pub returns : goal.returns
returns c =
    let start_is = ap app_of_fields c.no_binary_name-start.ensures ∙ ap (λ (a : App). on_top (λ s. record s { no_binary_name = true }) a) c.new.ensures.app in
    c.in_ok-sixth.ensures
    ∙ ap (λ (a : App). with_rule a (option_rule (codes "sample"))) (c.in_ok-fifth.ensures
    ∙ ap (λ (a : App). with_rule a (option_rule (codes "listen"))) (c.in_ok-fourth.ensures
    ∙ ap (λ (a : App). with_rule a (option_rule (codes "limit"))) (c.in_ok-third.ensures
    ∙ ap (λ (a : App). with_rule a (option_rule (codes "cache"))) (c.in_ok-second.ensures
    ∙ ap (λ (a : App). with_rule a (option_rule (codes "nodes"))) (c.in_ok-first.ensures
    ∙ ap (λ (a : App). with_rule a (option_rule (codes "bits"))) start_is)))))
