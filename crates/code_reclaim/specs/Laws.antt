-- What the functions of src/laws.rt show.
use Rattle.std.specs.Prelude.{◌≡◌, ◌↔◌, ℕ, true, List}
use Rattle.std.specs.List.{AllByRecursion}
use Rattle.node_tree.specs.Tree.{Tree, IsOrdered, IsReduced}
use Rattle.code_reclaim.specs.Told.{told_apart, IsToldApart}

-- the test of ordered reduced trees says whether some tree has unequal values at some bits with the
-- block set to the code and to all ones
abbrev pub ToldApartTells : Type 0
ToldApartTells =
    (trees : List Tree) (first bits code : ℕ) → AllByRecursion IsOrdered trees →
    AllByRecursion IsReduced trees →
    (told_apart trees first bits code ≡ true) ↔ IsToldApart trees first bits code
