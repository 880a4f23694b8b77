use Rattle.std.proofs.Common.{◌≡◌, ◌<◌, length, get_or, true, false, arith}
use Rattle.qtl_syntax.specs.Cuts.{is_blank}
use Rattle.qtl_syntax.proofs.Steps.{gap_blank, gap_comment}
use Rattle.qtl_syntax.proofs.fronts.gap_step.Goals as goal

pub returns-then-is_blank_byte-clause-goes_on : goal.returns-then-is_blank_byte-clause-goes_on
returns-then-is_blank_byte-clause-goes_on c =
    let blank : is_blank (get_or c.args.bytes.now 0 0) ≡ true = cc in
    rw c.if-in_comment.false (gap_blank c.args.bytes.now c.requires blank)

pub returns-then-bytes-eq47-2-clause-goes_on : goal.returns-then-bytes-eq47-2-clause-goes_on
returns-then-bytes-eq47-2-clause-goes_on c =
    let blank : is_blank (get_or c.args.bytes.now 0 0) ≡ false = cc in
    let long : 1 < length c.args.bytes.now = omega arith in
    let one : get_or c.args.bytes.now 0 0 ≡ 47 = cc in
    let two : get_or c.args.bytes.now 1 0 ≡ 47 = cc in
    rw c.if-in_comment.false (gap_comment c.args.bytes.now long blank one two)
