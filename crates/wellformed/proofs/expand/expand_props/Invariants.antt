use Rattle.std.proofs.Common.{◌≡◌, ◌≤◌, ◌+◌, [], ◌++◌, length, map, take, drop}
use Rattle.qtl_syntax.specs.Tree.{item_of}
use Rattle.qtl_truth.specs.Items.{before_of}
use Rattle.wellformed.specs.Expansion.{expanded_props, props_quantifiers, props_variables}
use Rattle.wellformed.specs.CoreTree.{props_of}
use Rattle.wellformed.proofs.expand.expand_props.Given as goal

abbrev pub invariant-loop-m : goal.invariant-loop-m
invariant-loop-m l = record {
  props : props_of l.props ++ expanded_props (before_of (take l.m l.items)) (length l.variables) (map item_of (drop l.m l.items)) ≡ expanded_props [] 0 (map item_of l.items);
  variables : l.variables ++ props_variables (before_of (take l.m l.items)) (length l.props) (map item_of (drop l.m l.items)) ≡ props_variables [] 0 (map item_of l.items);
  count : length l.variables + props_quantifiers (before_of (take l.m l.items)) (map item_of (drop l.m l.items)) ≡ props_quantifiers [] (map item_of l.items);
  few : length l.props ≤ l.m;
}
