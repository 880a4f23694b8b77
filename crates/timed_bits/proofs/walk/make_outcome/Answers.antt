use Rattle.std.proofs.Common.{sym, subst}
use Rattle.std.specs.Prelude.{Ok}
use Rattle.bdd_ops.specs.Apply.{leaf_of}
use Rattle.bdd_ops.specs.Applied.{Makes}
use Rattle.bdd_ops.proofs.Growing.{grows_none}
use Rattle.bdd_ops.proofs.Stages.{made_ok}
use Rattle.timed_bits.specs.Changing.{tree_for}
use Rattle.timed_bits.proofs.walk.make_outcome.Goals as goal

pub returns-in-Truth-clause-made : goal.returns-in-Truth-clause-made
returns-in-Truth-clause-made c =
    subst (λ o. Makes (tree_for c.args.block.first c.args.block.bits o) c.args.store.now.table c.args.store.now.table (Ok c.leaf_in.result)) (sym c.in-Truth.is)
    (made_ok c.args.store.now.table c.args.store.now.table (leaf_of c.in-Truth.truth) c.leaf_in.result c.leaf_in.ensures.valid c.leaf_in.ensures.tree (grows_none c.args.store.now.table (leaf_of c.in-Truth.truth) c.live-held.ensures.shared))
