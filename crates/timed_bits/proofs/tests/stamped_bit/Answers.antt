use Rattle.std.proofs.Common.{sym, subst, arith}
use Rattle.node_tree.specs.Tree.{Zero, One, Branch}
use Rattle.node_tree.specs.Levels.{LevelsBelow}
use Rattle.node_table.specs.Table.{tree_of}
use Rattle.timed_bits.proofs.Tested.{stamp-to_ok}
use Rattle.timed_bits.proofs.tests.stamped_bit.Goals as goal

pub stamp-requires-clause-before : goal.stamp-requires-clause-before
stamp-requires-clause-before g c =
    let below : LevelsBelow 1 (Branch 0 Zero One) = (omega arith, tt, tt) in
    subst (LevelsBelow 1) (sym c.in_ok-f.ensures.made.is) below

pub returns-clause-ages : goal.returns-clause-ages
returns-clause-ages g c =
    let below : LevelsBelow 1 (Branch 0 Zero One) = (omega arith, tt, tt) in
    stamp-to_ok 1 2 (tree_of c.cube.new.store.table c.in_ok-f.f) c.stamp.new.store.table c.stamp.result c.in_ok-f.ensures.made.ordered c.in_ok-f.ensures.made.reduced
    (subst (LevelsBelow 1) (sym c.in_ok-f.ensures.made.is) below) c.stamp.ensures.made.is
