use Rattle.std.proofs.Common.{sym, subst}
use Rattle.std.specs.Prelude.{Ok}
use Rattle.node_tree.specs.Tree.{Zero}
use Rattle.bdd_ops.specs.Applied.{Makes}
use Rattle.bdd_ops.proofs.Growing.{grows_none}
use Rattle.bdd_ops.proofs.Stages.{made_ok}
use Rattle.timed_bits.specs.Changes.{chain_of}
use Rattle.timed_bits.proofs.walk.make_age.Goals as goal

pub returns-in-None-clause-made : goal.returns-in-None-clause-made
returns-in-None-clause-made c =
    subst (λ o. Makes (chain_of c.args.block.first c.args.block.bits o) c.args.store.now.table c.args.store.now.table (Ok c.leaf_in.result)) (sym c.in-None.is)
    (made_ok c.args.store.now.table c.args.store.now.table Zero c.leaf_in.result c.leaf_in.ensures.valid c.leaf_in.ensures.tree (grows_none c.args.store.now.table Zero c.live-held.ensures.shared))
