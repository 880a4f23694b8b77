use Rattle.std.proofs.Common.{subst}
use Rattle.bdd_ops.specs.Applied.{HoldsResults}
use Rattle.bdd_ops.specs.Shelf.{Shelf}
use Rattle.bdd_ops.proofs.Memo.{sound_kept}
use Rattle.bdd_ops.proofs.short.apply_shortly.Goals as goal

pub invariant_of-store : goal.invariant_of-store
invariant_of-store g c = λ e. sound_kept c.store.inside.table c.apply_to_few.new.table c.store.inside.cache.pairs c.apply_to_few.ensures.tried.keeps (c.store.invariant e)

pub returns-clause-sound : goal.returns-clause-sound
returns-clause-sound g c =
    subst (λ (x : Shelf). HoldsResults x.table x.memo.pairs → HoldsResults c.apply_to_few.new.table c.store.inside.cache.pairs) c.store.view_is
    (λ s. sound_kept c.store.inside.table c.apply_to_few.new.table c.store.inside.cache.pairs c.apply_to_few.ensures.tried.keeps s)
