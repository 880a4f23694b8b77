use Rattle.std.proofs.Common.{◌≡◌, length, arith, rules}
use Rattle.qtl_syntax.specs.Tree.{item_of}
use Rattle.std.specs.Prelude.{map}
use Rattle.qtl_syntax.specs.Answer.{IsRefusedBy}
use Rattle.qtl_syntax.specs.KeptPlace.{place_of}
use Rattle.qtl_syntax.proofs.StopLaw.{stopped, passed_on, all_read, ends_early}
use Rattle.qtl_syntax.proofs.read.read_items.Goals as goal

pub returns-in-Some-clause-spelled : goal.returns-in-Some-clause-spelled
returns-in-Some-clause-spelled c =
    (all_read c.args.tokens.now (place_of c.loop-i.place) c.loop-i.i (map item_of c.in-Some.items) (omega arith) c.loop-i.invariant.same (rw c.in-Some.is at c.in_ok-items.ensures)).0

pub returns-in-Some-clause-clear : goal.returns-in-Some-clause-clear
returns-in-Some-clause-clear c =
    (all_read c.args.tokens.now (place_of c.loop-i.place) c.loop-i.i (map item_of c.in-Some.items) (omega arith) c.loop-i.invariant.same (rw c.in-Some.is at c.in_ok-items.ensures)).1

pub returns-in-None-clause-refused : goal.returns-in-None-clause-refused
returns-in-None-clause-refused c =
    let all : length c.args.tokens.now ≡ c.loop-i.i = omega arith in
    rw all (ends_early c.args.tokens.now (place_of c.loop-i.place) c.loop-i.i all c.loop-i.invariant.same (rw c.in-None.is at c.in_ok-items.ensures))

pub returns-in_err-place-clause-refused : goal.returns-in_err-place-clause-refused
returns-in_err-place-clause-refused c =
    let reached = stopped c.args.tokens.now (place_of c.loop-i.place) c.index-tokens-i.result c.loop-i.i c.in_err-place.field-0.0 (omega arith) (search rules) c.loop-i.invariant.same c.in_err-place.ensures.refused in
    passed_on c.from_residual.result (IsRefusedBy c.args.tokens.now) c.in_err-place.field-0.0 reached c.from_residual.ensures.1
