use Rattle.std.proofs.Common.{◌<◌, ◌≤◌, length, min, refl, sym, ◌∙◌, arith}
use Rattle.qtl_truth.specs.Scope.{assignment_of}
use Rattle.qtl_truth.proofs.Texts.{given_all, given_here, given_later, given_end, one_is_out}
use Rattle.qtl_truth.proofs.atom.+text.Goals as goal

pub argument-returns-then-is_same : goal.argument-returns-then-is_same
argument-returns-then-is_same t c =
    let in_params : c.loop-k.k < length c.args.params.now = omega arith in
    let in_terms : c.loop-k.k < length c.args.terms.now = omega arith in
    c.text_of.ensures
    ∙ given_here (assignment_of c.args.outer.now) c.args.params.now c.args.terms.now c.args.name.now _ _ _ in_params in_terms c.index-params-k.is c.index-terms-k.is c.loop-k.invariant (c.if-is_same.ensures.0 refl)
    ∙ sym (given_all (assignment_of c.args.outer.now) c.args.params.now c.args.terms.now c.args.name.now _ refl c.requires.own)

pub argument-loop-k-preserved : goal.argument-loop-k-preserved
argument-loop-k-preserved t c =
    let in_params : c.loop-k.k < length c.args.params.now = omega arith in
    let in_terms : c.loop-k.k < length c.args.terms.now = omega arith in
    given_later (assignment_of c.args.outer.now) c.args.params.now c.args.terms.now c.args.name.now _ _ in_params in_terms c.index-params-k.is c.loop-k.invariant
    (λ same. let never = c.if-is_same.ensures.1 same in cc)

pub argument-returns : goal.argument-returns
argument-returns t c =
    let all : min (length c.args.params.now) (length c.args.terms.now) ≤ c.loop-k.k = omega arith in
    sym (given_all (assignment_of c.args.outer.now) c.args.params.now c.args.terms.now c.args.name.now _ refl c.requires.own
    ∙ c.loop-k.invariant
    ∙ given_end (assignment_of c.args.outer.now) c.args.params.now c.args.terms.now c.args.name.now c.loop-k.k (one_is_out _ _ _ all))
