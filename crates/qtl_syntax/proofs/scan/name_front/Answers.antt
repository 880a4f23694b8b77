use Rattle.std.proofs.Common.{◌≡◌, ◌+◌, length, drop, arith}
use Rattle.qtl_syntax.specs.Scan.{is_tail, front_of}
use Rattle.qtl_syntax.proofs.Steps.{name_inside, take_fits}
use Rattle.qtl_syntax.proofs.scan.name_front.Goals as goal

pub slice_bounds-name_or_word-end : goal.slice_bounds-name_or_word-end
slice_bounds-name_or_word-end c =
    let n : c.tail_count-length.result ≡ length (front_of is_tail (drop 1 c.args.bytes.now)) = rw c.behind_first.ensures at c.tail_count-length.ensures in
    let i = name_inside c.args.bytes.now c.requires.some_bytes in
    take_fits (1 + c.tail_count-length.result) c.args.bytes.now (omega (arith, n, i))
