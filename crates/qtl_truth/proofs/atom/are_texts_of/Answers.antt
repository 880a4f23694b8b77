use Rattle.std.proofs.Common.{◌≡◌, length, arith}
use Rattle.qtl_truth.proofs.Texts.{texts_length}
use Rattle.qtl_truth.proofs.atom.are_texts_of.Goals as goal

pub returns-then-terms-texts : goal.returns-then-terms-texts
returns-then-terms-texts c =
    (λ not. cc, λ e. let same : length c.args.terms.now ≡ length c.args.texts.now = texts_length _ _ _ e in absurd (omega arith))
