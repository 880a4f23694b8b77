use Rattle.std.proofs.Common.{◌≡◌, map, drop}
use Rattle.qtl_syntax.specs.Tree.{item_of}
use Rattle.wellformed.specs.Faults.{has_prop}
use Rattle.wellformed.proofs.passes.has_prop.Given as goal

abbrev pub invariant-loop-item : goal.invariant-loop-item
invariant-loop-item l = has_prop (map item_of l.items) ≡ has_prop (map item_of (drop l.item-index l.items))
