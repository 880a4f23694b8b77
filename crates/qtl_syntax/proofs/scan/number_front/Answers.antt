use Rattle.std.proofs.Common.{◌≡◌, ◌+◌, length, drop, arith}
use Rattle.qtl_syntax.specs.Cuts.{is_digit}
use Rattle.qtl_syntax.specs.Scan.{front_of}
use Rattle.qtl_syntax.proofs.Steps.{number_inside, take_fits}
use Rattle.qtl_syntax.proofs.scan.number_front.Goals as goal

pub slice_bounds-from_bytes-end : goal.slice_bounds-from_bytes-end
slice_bounds-from_bytes-end c =
    let n : c.digit_count-length.result ≡ length (front_of is_digit (drop 1 c.args.bytes.now)) = rw c.behind_first.ensures at c.digit_count-length.ensures in
    let i = number_inside c.args.bytes.now c.requires.some_bytes in
    take_fits (1 + c.digit_count-length.result) c.args.bytes.now (omega (arith, n, i))
