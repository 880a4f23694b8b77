use Rattle.std.proofs.Common.{◌≡◌, ◌+◌, ◌++◌, ◌≤◌, drop, length}
use Rattle.std.specs.Prelude.{vec_capacity}
use Rattle.subformulas.specs.NeedList.{EntryArgsBelow}
use Rattle.monitor_model.specs.Books.{without_code}
use Rattle.monitor_step.specs.Giving.{marked, own_texts}
use Rattle.monitor_step.proofs.serve.list_codes.Given as goal

abbrev pub invariant-loop-entry : goal.invariant-loop-entry
invariant-loop-entry l = record {
  listed : l.codes.items ++ marked l.book.pairs (own_texts l.args (drop l.entry-index l.own)) ≡ l.fn.codes.items ++ marked l.book.pairs (own_texts l.args l.own);
  news : l.new + length (without_code l.book.pairs (own_texts l.args (drop l.entry-index l.own))) ≡ length (without_code l.book.pairs (own_texts l.args l.own));
  few : l.new ≤ l.entry-index;
  within : EntryArgsBelow (length l.args) (drop l.entry-index l.own);
  count : length l.codes.items ≡ length l.fn.codes.items + l.entry-index;
  room : vec_capacity l.fn.codes ≤ vec_capacity l.codes;
}
