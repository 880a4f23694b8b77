use Rattle.std.proofs.Common.{◌∙◌, codes}
use Rattle.clap.specs.Words.{found_of}
use Rattle.clap.proofs.WalkLemmas.{one_text-rows}
use Rattle.settings.specs.Asked.{rows_in}
use Rattle.settings.proofs.Parses.{flag_read}
use Rattle.settings.proofs.command.has_flag.Goals as goal

pub returns : goal.returns
unfolding rows_in
returns c =
    let same = one_text-rows (found_of c.args.matches.now) (codes "all") in
    c.unwrap_or.ensures ∙ flag_read _ c.get_one.result (λ e. c.get_one.ensures.none (same ∙ e)) (λ t e. c.get_one.ensures.value t (same ∙ e))
