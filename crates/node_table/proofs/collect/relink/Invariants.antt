use Rattle.node_table.specs.Arrays.{node_in, chain_in}
use Rattle.node_table.proofs.Relinking.{Relinks}
use Rattle.node_table.proofs.collect.relink.Given as goal

abbrev pub invariant-loop-at : goal.invariant-loop-at
invariant-loop-at l = Relinks (node_in l.initial.slots) (chain_in l.initial.slots) (node_in l.slots) (chain_in l.slots) l.heads l.at
