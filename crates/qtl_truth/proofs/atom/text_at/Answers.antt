use Rattle.std.proofs.Common.{refl}
use Rattle.qtl_truth.proofs.Texts.{text_here, text_later}
use Rattle.qtl_truth.proofs.atom.text_at.Goals as goal

pub returns-then-is_same : goal.returns-then-is_same
returns-then-is_same c =
    text_here _ _ _ _ c.loop-name-test.true c.loop-name-item.is c.loop-name.invariant (c.if-is_same.ensures.0 refl)

pub loop-name-preserved : goal.loop-name-preserved
loop-name-preserved c =
    text_later _ _ _ _ c.loop-name-test.true c.loop-name-item.is c.loop-name.invariant
    (λ same. let never = c.if-is_same.ensures.1 same in cc)
