use Rattle.bdd_ops.proofs.Memo.{sound_kept}
use Rattle.bdd_ops.proofs.code_cubes.code_cube_inside.Goals as goal

pub invariant_of-store : goal.invariant_of-store
invariant_of-store c = λ e. sound_kept c.store.inside.table c.put_codes.new.table c.store.inside.cache.pairs c.put_codes.ensures.grows.keeps (c.store.invariant e)
