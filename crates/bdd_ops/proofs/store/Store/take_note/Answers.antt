use Rattle.std.proofs.Common.{subst}
use Rattle.node_tree.specs.Tree.{Zero}
use Rattle.bdd_ops.specs.Applied.{Grows}
use Rattle.bdd_ops.specs.Shelf.{Shelf}
use Rattle.bdd_ops.proofs.Growing.{grows_noted}
use Rattle.bdd_ops.proofs.Memo.{sound_kept}
use Rattle.bdd_ops.proofs.store.Store.take_note.Goals as goal

pub invariant_of-self : goal.invariant_of-self
invariant_of-self c = λ e.
    let grown = grows_noted c.self.inside.table c.take_note.new.self Zero c.live-held.ensures.shared c.take_note.ensures.room c.take_note.ensures.nodes in
    sound_kept c.self.inside.table c.take_note.new.self c.self.inside.cache.pairs grown.keeps (c.self.invariant e)

pub returns-clause-grows : goal.returns-clause-grows
returns-clause-grows c =
    subst (λ (x : Shelf). Grows x.table c.take_note.new.self Zero) c.self.view_is
    (grows_noted c.self.inside.table c.take_note.new.self Zero c.live-held.ensures.shared c.take_note.ensures.room c.take_note.ensures.nodes)
