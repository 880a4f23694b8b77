use Rattle.std.proofs.Common.{refl}
use Rattle.qtl_truth.specs.Scope.{assignment_of}
use Rattle.qtl_truth.specs.Truth.{texts_of}
use Rattle.qtl_truth.proofs.Calls.{says_event, says_body, says_before}
use Rattle.qtl_truth.proofs.slow.+slow.Goals as goal

pub says-returns-in-None : goal.says-returns-in-None
says-returns-in-None t c =
    says_event c.args.before.now c.args.log.now c.args.i _ c.args.name.now (texts_of (assignment_of c.args.scope.now) c.args.terms.now) _
    c.in-None.ensures.cases c.requires.from c.requires.to c.index-log-i.is c.is_event.ensures

pub says-returns-then-have_texts : goal.says-returns-then-have_texts
says-returns-then-have_texts t c =
    says_body c.args.before.now c.in-Some.rest.now c.in-Some.last.now c.in-Pred.own c.in-Pred.params c.as_slice.result.now c.in-Pred.body c.args.log.now c.args.i c.args.name.now
    (texts_of (assignment_of c.args.scope.now) c.args.terms.now) _ c.in-Some.ensures.cases.0 c.in-Pred.is
    (c.if-is_same.ensures.0 refl) (c.if-have_texts.ensures.0 refl) c.as_slice.ensures c.holds.ensures

pub says-returns-else-is_same : goal.says-returns-else-is_same
says-returns-else-is_same t c =
    says_before c.args.before.now c.in-Some.rest.now c.in-Some.last.now c.in-Pred.own c.in-Pred.params c.in-Pred.body c.args.log.now c.args.i c.args.name.now
    (texts_of (assignment_of c.args.scope.now) c.args.terms.now) _ c.in-Some.ensures.cases.0 c.in-Pred.is
    (λ same. let never = c.if-is_same.ensures.1 same in cc) c.says-else-is_same.ensures
