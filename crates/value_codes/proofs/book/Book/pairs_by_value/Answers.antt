use Rattle.std.proofs.Common.{subst, map, rules}
use Rattle.std.specs.Prelude.{IsPermutation}
use Rattle.std.specs.Ordering.{is_lt, nat_cmp}
use Rattle.std.specs.Cmp.Lexicographic.{slice_cmp, nat_list_cmp_total}
use Rattle.std.proofs.lemmas.List.Sorted.{IsPermutation-map, answers_always, ranks_by}
use Rattle.value_codes.specs.PairList.{pair_of}
use Rattle.value_codes.specs.declared.pair.Pair.{Pair}
use Rattle.value_codes.proofs.book.Book.pairs_by_value.Goals as goal

pub returns-clause-all : goal.returns-clause-all
returns-clause-all c =
    subst (λ pairs. IsPermutation pairs (map pair_of c.sort_by.new.self.items)) c.in_ok-pairs.ensures
    (IsPermutation-map pair_of _ _ c.sort_by.ensures.permutation)

pub returns-clause-ascending : goal.returns-clause-ascending
returns-clause-ascending c =
    c.in_ok-sort_by.ensures.sorted (λ x y. is_lt (slice_cmp nat_cmp x.value y.value)) (ranks_by nat_list_cmp_total (λ (p : Pair). p.value))
    (answers_always _ _ _ (λ f a r f' k. search rules))
