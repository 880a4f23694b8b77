-- One item more, as the program holds it and as contracts see it.
use Rattle.std.proofs.Common.{◌≡◌, List, [], ◌∷◌, ◌++◌}
use Rattle.std.specs.Prelude.{map}
use Rattle.std.proofs.lemmas.List.{map-append}
use Rattle.qtl_syntax.specs.Tree.{item_of}
use Rattle.qtl_syntax.specs.declared.formula.Item as rust_item

pub one_added : (items : List rust_item.Item) (one : rust_item.Item) → map item_of (items ++ one ∷ []) ≡ map item_of items ++ item_of one ∷ []
one_added items one = map-append item_of items (one ∷ [])
