use Rattle.std.proofs.Common.{◌∙◌, sym, ap, subst, map, string_bytes, inl, inr}
use Rattle.clap.specs.Words.{App, IsAmong, fault_of, is_simple, is_simple_and_free, kind_of, matches_of}
use Rattle.settings.specs.Asked.{rows_in, settings_of}
use Rattle.settings.proofs.Parses.{after_parse-clean, after_parse-fault, is_free, is_plain}
use Rattle.settings.proofs.command.matches_in.Goals as goal

pub returns-in-Ok-try_get_matches_from-clause-ok : goal.returns-in-Ok-try_get_matches_from-clause-ok
unfolding settings_of rows_in
returns-in-Ok-try_get_matches_from-clause-ok c =
    after_parse-clean _ _ _
    (ap (λ (a : App). fault_of a (map string_bytes c.args.words.now)) (sym c.in-Ok.ensures) ∙ c.in-Ok-try_get_matches_from.ensures.kinds (ap is_simple_and_free c.in-Ok.ensures ∙ is_free))
    ((c.in-Ok-try_get_matches_from.ensures.matches (ap is_simple c.in-Ok.ensures ∙ is_plain)).0 ∙ ap (λ (a : App). matches_of a (map string_bytes c.args.words.now)) c.in-Ok.ensures)

pub returns : goal.returns
unfolding settings_of
returns c =
    let failed = c.in-Err-try_get_matches_from.ensures.kinds (ap is_simple_and_free c.in-Ok.ensures ∙ is_free) in
    record {
      ok = tt;
      usage = λ _. elim failed [
        | inl memory ↦ absurd (c.in_default.not-OutOfMemory (c.kind.ensures ∙ memory))
        | inr among ↦ after_parse-fault _ _ _ (subst (λ (a : App). IsAmong (kind_of c.in-Err-try_get_matches_from.fault) (fault_of a (map string_bytes c.args.words.now))) c.in-Ok.ensures among)
      ];
    }
