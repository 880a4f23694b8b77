use Rattle.node_table.specs.Table.{IsValid}
use Rattle.diagram_bench.proofs.work.all_rounds.Given as goal

abbrev pub invariant-loop-round : goal.invariant-loop-round
invariant-loop-round g l = IsValid l.store.table l.set
