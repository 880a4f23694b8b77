use Rattle.std.proofs.Common.{subst}
use Rattle.node_tree.specs.Tree.{join}
use Rattle.node_table.specs.Table.{tree_of}
use Rattle.bdd_ops.specs.Applied.{Makes, HoldsResults}
use Rattle.bdd_ops.specs.Shelf.{Shelf}
use Rattle.bdd_ops.proofs.Memo.{sound_kept}
use Rattle.bdd_ops.proofs.Stages.{makes_node}
use Rattle.bdd_ops.proofs.store.Store.make.Goals as goal

pub invariant_of-self : goal.invariant_of-self
invariant_of-self c = λ e. sound_kept c.self.inside.table c.make.new.self c.self.inside.cache.pairs c.make.ensures.kept (c.self.invariant e)

pub returns-clause-made : goal.returns-clause-made
returns-clause-made c =
    subst (λ (x : Shelf). Makes (join c.args.level (tree_of x.table c.args.low) (tree_of x.table c.args.high)) x.table c.make.new.self c.make.result) c.self.view_is
    (makes_node c.self.inside.table c.make.new.self (join c.args.level (tree_of c.self.inside.table c.args.low) (tree_of c.self.inside.table c.args.high)) c.make.result c.make.ensures.valid
    c.make.ensures.tree c.make.ensures.kept c.make.ensures.held c.make.ensures.err c.make.ensures.shared c.make.ensures.full)

pub returns-clause-sound : goal.returns-clause-sound
returns-clause-sound c =
    subst (λ (x : Shelf). HoldsResults x.table x.memo.pairs → HoldsResults c.make.new.self c.self.inside.cache.pairs) c.self.view_is
    (λ e. sound_kept c.self.inside.table c.make.new.self c.self.inside.cache.pairs c.make.ensures.kept e)
