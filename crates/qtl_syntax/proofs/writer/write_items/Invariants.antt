use Rattle.std.proofs.Common.{◌≡◌, ◌++◌, drop}
use Rattle.std.specs.Prelude.{map}
use Rattle.qtl_syntax.specs.Tree.{item_of}
use Rattle.qtl_syntax.specs.Canonical.{canonical}
use Rattle.qtl_syntax.proofs.writer.write_items.Given as goal

abbrev pub invariant-loop-item : goal.invariant-loop-item
invariant-loop-item l = l.initial.out.items ++ canonical (map item_of l.items) ≡ l.out.items ++ canonical (map item_of (drop l.item-index l.items))
