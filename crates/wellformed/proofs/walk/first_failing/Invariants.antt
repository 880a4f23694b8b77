use Rattle.std.proofs.Common.{◌≡◌, [], map, take, drop}
use Rattle.qtl_syntax.specs.Tree.{item_of}
use Rattle.qtl_truth.specs.Items.{before_of}
use Rattle.wellformed.specs.Faults.{first_in}
use Rattle.wellformed.specs.Walk.{pass_of}
use Rattle.wellformed.proofs.walk.first_failing.Given as goal

abbrev pub invariant-loop-m : goal.invariant-loop-m
invariant-loop-m l =
    first_in (pass_of l.test) [] 0 (map item_of l.items) ≡ first_in (pass_of l.test) (before_of (take l.m l.items)) l.m (map item_of (drop l.m l.items))
