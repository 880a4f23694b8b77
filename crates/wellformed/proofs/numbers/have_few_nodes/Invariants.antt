use Rattle.std.proofs.Common.{◌↔◌, map, drop}
use Rattle.std.specs.List.{AllByRecursion}
use Rattle.qtl_syntax.specs.Tree.{item_of}
use Rattle.wellformed.specs.Faults.{HasFewNodes}
use Rattle.wellformed.proofs.numbers.have_few_nodes.Given as goal

abbrev pub invariant-loop-item : goal.invariant-loop-item
invariant-loop-item l = AllByRecursion HasFewNodes (map item_of l.items) ↔ AllByRecursion HasFewNodes (map item_of (drop l.item-index l.items))
