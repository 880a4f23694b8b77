use Rattle.std.proofs.Common.{◌≡◌, [], map, take, drop}
use Rattle.qtl_syntax.specs.Tree.{item_of}
use Rattle.wellformed.specs.Faults.{duplicate_from}
use Rattle.qtl_truth.specs.Items.{before_of}
use Rattle.wellformed.proofs.duplicates.duplicate_name.Given as goal

abbrev pub invariant-loop-m : goal.invariant-loop-m
invariant-loop-m l = duplicate_from [] 0 (map item_of l.items) ≡ duplicate_from (before_of (take l.m l.items)) l.m (map item_of (drop l.m l.items))
