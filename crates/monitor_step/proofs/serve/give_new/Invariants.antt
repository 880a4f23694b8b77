use Rattle.std.proofs.Common.{drop, length}
use Rattle.subformulas.specs.NeedList.{EntryArgsBelow}
use Rattle.monitor_step.specs.Giving.{own_texts}
use Rattle.monitor_step.proofs.Serving.Given.{IsGiving}
use Rattle.monitor_step.proofs.Serving.Marked.{AreGiven}
use Rattle.monitor_step.proofs.serve.give_new.Given as goal

abbrev pub invariant-loop-i : goal.invariant-loop-i
invariant-loop-i l = record {
  giving : IsGiving l.fn.book.bits (own_texts l.args l.own) l.fn.book.pairs (own_texts l.args (drop l.i l.own)) l.book;
  given : AreGiven l.args l.own l.i l.book.pairs l.codes;
  within : EntryArgsBelow (length l.args) (drop l.i l.own);
}
