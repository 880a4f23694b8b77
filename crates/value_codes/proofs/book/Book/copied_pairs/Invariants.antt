use Rattle.std.proofs.Common.{◌≡◌, map, length, take}
use Rattle.value_codes.specs.PairList.{pair_of}
use Rattle.value_codes.proofs.book.Book.copied_pairs.Given as goal

abbrev pub invariant-loop-value : goal.invariant-loop-value
invariant-loop-value l = map pair_of l.pairs.items ≡ take (length l.yielded) l.self.pairs
