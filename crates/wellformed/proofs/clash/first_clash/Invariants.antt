use Rattle.wellformed.specs.Clash.{seen_in}
use Rattle.std.proofs.Common.{◌≡◌, [], map, take, drop}
use Rattle.qtl_syntax.specs.Tree.{item_of}
use Rattle.qtl_truth.specs.Items.{before_of}
use Rattle.wellformed.proofs.Clashes.{Tells}
use Rattle.wellformed.specs.Faults.{atoms_before, clash_pass, first_in}
use Rattle.wellformed.proofs.clash.first_clash.Given as goal

abbrev pub invariant-loop-m : goal.invariant-loop-m
invariant-loop-m l = record {
  all : first_in clash_pass [] 0 (map item_of l.items) ≡ first_in clash_pass (before_of (take l.m l.items)) l.m (map item_of (drop l.m l.items));
  seen : Tells (seen_in l.seen) (atoms_before (before_of (take l.m l.items)));
}
