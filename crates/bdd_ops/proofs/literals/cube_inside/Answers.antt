use Rattle.bdd_ops.proofs.Memo.{sound_kept}
use Rattle.bdd_ops.proofs.literals.cube_inside.Goals as goal

pub invariant_of-store : goal.invariant_of-store
invariant_of-store c = λ e. sound_kept c.store.inside.table c.cube_parts.new.table c.store.inside.cache.pairs c.cube_parts.ensures.grows.keeps (c.store.invariant e)
