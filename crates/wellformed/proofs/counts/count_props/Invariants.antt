use Rattle.std.proofs.Common.{◌≡◌, ◌+◌, ◌≤◌, [], length, map, take, drop}
use Rattle.std.specs.Prelude.{min}
use Rattle.qtl_syntax.specs.Tree.{item_of}
use Rattle.qtl_truth.specs.Items.{before_of}
use Rattle.wellformed.specs.Counts.{AreCounts}
use Rattle.wellformed.specs.Expansion.{props_quantifiers}
use Rattle.wellformed.specs.Faults.{props_size}
use Rattle.wellformed.proofs.counts.count_props.Given as goal

abbrev pub invariant-loop-m : goal.invariant-loop-m
invariant-loop-m l = record {
  most : (l.total.size ≤ 1000000) × (l.total.quantifiers ≤ 1000000);
  each : length l.counts.items ≡ l.m;
  known : AreCounts [] (take l.m l.items) l.counts.items;
  size : min (l.total.size + props_size (before_of (take l.m l.items)) (map item_of (drop l.m l.items))) 1000000 ≡ min (props_size [] (map item_of l.items)) 1000000;
  quantifiers : min (l.total.quantifiers + props_quantifiers (before_of (take l.m l.items)) (map item_of (drop l.m l.items))) 1000000
      ≡ min (props_quantifiers [] (map item_of l.items)) 1000000;
}
