-- The items of a specification that stand before a formula.
use Rattle.std.specs.Prelude.{List, map, reverse}
use Rattle.qtl_syntax.specs.Tree.{Item, item_of}
use Rattle.qtl_syntax.specs.declared.formula.Item as rust_item

-- the items that the program holds in the order of the text, with the nearest first
abbrev pub before_of : List rust_item.Item → List Item
before_of items = reverse (map item_of items)
