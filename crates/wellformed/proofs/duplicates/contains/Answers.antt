use Rattle.wellformed.proofs.FirstFaults.{is_in_here, is_in_next}
use Rattle.wellformed.proofs.duplicates.contains.Goals as goal

pub returns-then-is_same : goal.returns-then-is_same
returns-then-is_same c = is_in_here _ _ _ _ c.loop-own-test.true c.own-item.is (c.is_same.ensures.0 c.if-is_same.true) c.loop-own.invariant

pub loop-own-preserved : goal.loop-own-preserved
loop-own-preserved c = is_in_next _ _ _ _ c.loop-own-test.true c.own-item.is (λ h. let yes = c.is_same.ensures.1 h in let no = c.if-is_same.false in cc) c.loop-own.invariant
