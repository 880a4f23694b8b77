use Rattle.wellformed.proofs.FirstFaults.{unbound_here, bound_next, constant_next}
use Rattle.wellformed.proofs.walk.has_unbound.Goals.{in-Variable+else-not-is_bound, in-Constant}
use Rattle.wellformed.proofs.walk.has_unbound.Goals as goal

pub returns-then-not-is_bound : goal.returns-then-not-is_bound
returns-then-not-is_bound c = unbound_here _ _ _ _ _ _ c.loop-term-test.true c.term-item.is c.in-Variable.is c.is_bound.ensures c.if-not-is_bound.true c.loop-term.invariant

pub loop-term-preserved : goal.loop-term-preserved
loop-term-preserved c = elim c.match-term.branch [
  | in-Variable+else-not-is_bound w ↦ bound_next _ c.args.terms.now c.loop-term.term-index c.term-item.result w.in-Variable.name w.is_bound.result c.loop-term-test.true c.term-item.is w.in-Variable.is w.is_bound.ensures w.if-not-is_bound.false c.loop-term.invariant
  | in-Constant w ↦ constant_next _ c.args.terms.now c.loop-term.term-index c.term-item.result _ c.loop-term-test.true c.term-item.is w.in-Constant.is c.loop-term.invariant
]
