use Rattle.std.proofs.Common.{ℕ, ◌<◌, subst, arith}
use Rattle.witness.proofs.ChainRows.{below_on, child}
use Rattle.witness.proofs.chain.+below.Goals as goal

pub below-requires : goal.below-requires
below-requires t c =
    let row = child c.args.plan.now c.count-sound.ensures.sound c.args.k c.sub-sub.result.now c.requires.from c.sub-sub.ensures c.in-Forall.field-0 c.in-Forall.is in
    let less = row.1 in (
      subst (λ (n : ℕ). c.sub-sub.result.now.left < n) c.decreases less,
      (row.0, omega (arith, less, c.requires.to)),
    )

pub returns-in-Forall-clause-is : goal.returns-in-Forall-clause-is
returns-in-Forall-clause-is t c = λ looks l.
    below_on c.args.plan.now c.count-sound.ensures.sound c.args.k c.sub-sub.result.now c.requires.from c.sub-sub.ensures c.in-Forall.field-0 c.in-Forall.is
    looks c.below.result l c.below.ensures.is

pub returns-in-Forall-clause-to : goal.returns-in-Forall-clause-to
returns-in-Forall-clause-to t c =
    let row = child c.args.plan.now c.count-sound.ensures.sound c.args.k c.sub-sub.result.now c.requires.from c.sub-sub.ensures c.in-Forall.field-0 c.in-Forall.is in
    let less = row.1 in
    omega (arith, less, c.below.ensures.to)
