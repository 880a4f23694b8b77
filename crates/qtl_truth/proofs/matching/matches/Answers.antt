use Rattle.std.proofs.Common.{◌≡◌, Some, subst, arith}
use Rattle.qtl_truth.specs.Matching.{IsTaken}
use Rattle.qtl_truth.specs.NumberedAtom.{texts_under}
use Rattle.qtl_truth.proofs.Places.{all_taken, going, stopping, next_variables, has_room, atom_parts, no_atom}
use Rattle.qtl_truth.proofs.matching.matches.Goals as goal

pub returns-then-not-is_same-clause-answer : goal.returns-then-not-is_same-clause-answer
returns-then-not-is_same-clause-answer c = λ nu m.
    no_atom nu c.args.atom.now c.args.event.now c.is_same.result c.is_same.ensures (rw (c.as_slice-args.ensures, c.as_slice-terms.ensures) at c.then-not-is_same.either) m

pub returns-in_err-take-clause-no_memory : goal.returns-in_err-take-clause-no_memory
returns-in_err-take-clause-no_memory c = λ few.
    let room = has_room _ _ _ _ _ c.loop-k-test.true c.index-terms-k.is c.loop-k.invariant.each in
    let same = rw c.as_slice-terms.ensures at room in
    let ok = c.in_err-take.ensures.room (let r = c.loop-k.invariant.room in omega arith) in cc

pub returns-then-not-branch-clause-answer : goal.returns-then-not-branch-clause-answer
returns-then-not-branch-clause-answer c = λ nu m.
    let p = atom_parts nu c.args.atom.now c.args.event.now m in
    let taken = subst (IsTaken c.as_slice-args.result.now c.loop-k.k c.index-terms-k.result c.loop-k.places.items c.take.new.places.items) c.if-not-branch.true c.in_ok-take.ensures.taken in
    let texts : texts_under nu c.as_slice-terms.result.now ≡ Some c.as_slice-args.result.now = rw (c.as_slice-terms.ensures, c.as_slice-args.ensures) p.1 in
    stopping _ nu _ _ _ _ _ c.loop-k-test.true (omega arith) c.index-terms-k.is (c.loop-k.invariant.exactly nu) (taken nu) texts

pub loop-k-preserved : goal.loop-k-preserved
loop-k-preserved c =
    let adds = subst (IsTaken c.as_slice-args.result.now c.loop-k.k c.index-terms-k.result c.loop-k.places.items c.take.new.places.items) c.if-not-branch.false c.in_ok-take.ensures.taken in
    record {
      exactly = λ nu. going _ nu _ _ _ _ _ _ c.loop-k-test.true (omega arith) c.index-terms-k.is (c.loop-k.invariant.exactly nu) adds;
      each = rw adds.each (next_variables _ _ _ _ _ c.loop-k-test.true c.index-terms-k.is c.loop-k.invariant.each);
      within = adds.within;
      room = let r = c.loop-k.invariant.room in let m = c.in_ok-take.ensures.capacity in omega arith;
    }

pub returns-clause-answer : goal.returns-clause-answer
returns-clause-answer c =
    let terms = c.as_slice-terms.ensures in
    let args = c.as_slice-args.ensures in
    let inv = c.loop-k.invariant in
    all_taken c.args.atom.now c.args.event.now c.loop-k.places.items c.loop-k.k (rw terms at c.loop-k-test.false) (rw (terms, args) at c.if-args-terms.false)
    (c.is_same.ensures.0 c.if-not-is_same.false) (rw terms at inv.each) (rw args at inv.within) (λ nu. rw (terms, args) at inv.exactly nu)
