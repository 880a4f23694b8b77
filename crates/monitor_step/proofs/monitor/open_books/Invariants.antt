use Rattle.std.proofs.Common.{◌≡◌, [], length}
use Rattle.std.specs.List.{AllByRecursion}
use Rattle.value_codes.specs.Pairs.{IsBook}
use Rattle.monitor_step.proofs.monitor.open_books.Given as goal

abbrev pub invariant-loop : goal.invariant-loop
invariant-loop l = record {
  count : length l.books.items ≡ l.counter;
  empty : AllByRecursion (λ b. b ≡ record { bits = l.bits; pairs = [] }) l.books.items;
  sound : AllByRecursion IsBook l.books.items;
}
