use Rattle.std.proofs.Common.{sym, ap, ◌∙◌, arith}
use Rattle.qtl_truth.specs.declared.numbered_atom.AtomTerm.TheVariants.{Constant}
use Rattle.wellformed.proofs.Arguments.{meant_here, meant_next, meant_none}
use Rattle.wellformed.proofs.meaning.argument.Goals as goal

pub returns-then-is_same : goal.returns-then-is_same
returns-then-is_same c =
    let l = c.loop-k-test.true in
    let e = c.min-count.ensures in
    let h = meant_here c.args.params.now c.args.terms.now c.loop-k.k c.index-params-k.result c.args.name.now c.index-terms-k.result _ (omega arith) (omega arith) c.index-params-k.is c.index-terms-k.is
    (c.is_same.ensures.0 c.if-is_same.true) c.loop-k.invariant in
    rw h c.copy.ensures

pub loop-k-preserved : goal.loop-k-preserved
loop-k-preserved c =
    let l = c.loop-k-test.true in
    let e = c.min-count.ensures in
    meant_next c.args.params.now c.args.terms.now c.loop-k.k c.index-params-k.result c.args.name.now _ (omega arith) (omega arith) c.index-params-k.is
    (λ h. let yes = c.is_same.ensures.1 h in let no = c.if-is_same.false in cc) c.loop-k.invariant

pub returns : goal.returns
returns c =
    let l = c.loop-k-test.false in
    let e = c.min-count.ensures in
    let h = meant_none c.args.params.now c.args.terms.now c.loop-k.k c.args.name.now _ (omega arith) c.loop-k.invariant in
    ap Constant c.in_ok-copy.ensures ∙ sym h
