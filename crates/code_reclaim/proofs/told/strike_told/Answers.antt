use Rattle.std.proofs.Common.{◌∙◌, ◌+◌, ◌*◌, ◌≤◌, ℕ, length, subst, arith}
use Rattle.code_reclaim.specs.Search.{unmarked}
use Rattle.code_reclaim.proofs.Counting.{unmarked_few, paid_all, each_code, chained}
use Rattle.code_reclaim.proofs.Telling.{struck_more, marks_more, struck_at_end}
use Rattle.code_reclaim.proofs.told.strike_told.Goals as goal

pub loop-h-preserved : goal.loop-h-preserved
loop-h-preserved g c = record {
  room = c.strike_below.ensures.struck.room ∙ c.loop-h.invariant.room;
  nodes = c.strike_below.ensures.struck.nodes ∙ c.loop-h.invariant.nodes;
  count = c.strike_below.ensures.struck.count ∙ c.loop-h.invariant.count;
  struck = struck_more c.args.table.now c.loop-h.table c.strike_below.new.table c.args.remembered.now c.loop-h.h-index c.h-item.result c.args.block.first c.args.block.bits c.args.from c.args.candidates.now
      c.loop-h.candidates c.strike_below.new.candidates c.loop-h.invariant.nodes (omega arith) c.h-item.is c.strike_below.ensures.struck c.loop-h.invariant.struck;
  marks = marks_more c.loop-h.table c.strike_below.new.table c.h-item.result c.args.block.first c.args.block.bits c.args.from c.loop-h.candidates c.strike_below.new.candidates
      c.strike_below.ensures.struck c.loop-h.invariant.marks;
  cost = chained (length c.args.candidates.now * (2 * c.args.block.bits + 1)) c.args.steps.now c.loop-h.steps c.strike_below.new.steps (unmarked c.unmark_all.new.self) (unmarked c.loop-h.table) (unmarked c.strike_below.new.table)
      c.loop-h.invariant.cost
      (subst (λ (n : ℕ). c.strike_below.new.steps + n * (2 * c.args.block.bits + 1) * unmarked c.strike_below.new.table ≤ c.loop-h.steps + n * (2 * c.args.block.bits + 1) * unmarked c.loop-h.table)
      c.loop-h.invariant.count c.strike_below.ensures.cost);
  idle = λ e. absurd (omega (arith, e));
}

pub returns-clause-struck : goal.returns-clause-struck
returns-clause-struck g c =
    struck_at_end c.args.table.now c.args.remembered.now c.loop-h.h-index c.args.block.first c.args.block.bits c.args.from c.args.candidates.now c.loop-h.candidates (omega arith) c.loop-h.invariant.struck

pub returns-clause-cost : goal.returns-clause-cost
returns-clause-cost g c =
    each_code (length c.args.candidates.now) (c.args.table.now.room + 2) (2 * c.args.block.bits + 1) c.loop-h.steps c.args.steps.now
    (paid_all (length c.args.candidates.now * (2 * c.args.block.bits + 1)) c.args.steps.now c.loop-h.steps (unmarked c.unmark_all.new.self) (unmarked c.loop-h.table) c.args.table.now.room c.loop-h.invariant.cost
    (unmarked_few c.args.table.now c.unmark_all.new.self c.unmark_all.ensures.nodes c.live-held.ensures.shared))
