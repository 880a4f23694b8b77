use Rattle.std.proofs.Common.{◌≡◌, take}
use Rattle.wellformed.specs.Faults.{props_named}
use Rattle.qtl_truth.specs.Items.{before_of}
use Rattle.wellformed.proofs.duplicates.has_prop_named.Given as goal

abbrev pub invariant-loop-item : goal.invariant-loop-item
invariant-loop-item l = l.found ≡ props_named (before_of (take l.item-index l.items)) l.name
