use Rattle.std.proofs.Common.{◌≡◌, drop, map}
use Rattle.std.specs.List.{list_any}
use Rattle.qtl_syntax.specs.Tree.{item_of}
use Rattle.wellformed.specs.Macros.{is_macro_named}
use Rattle.wellformed.proofs.macros.has_macro.Given as goal

abbrev pub invariant-loop-item : goal.invariant-loop-item
invariant-loop-item l =
    list_any (λ item. is_macro_named item l.name) (map item_of l.items) ≡ list_any (λ item. is_macro_named item l.name) (map item_of (drop l.item-index l.items))
