use Rattle.std.proofs.Common.{subst}
use Rattle.std.specs.Vec.{vec_capacity}
use Rattle.op_cache.specs.Memo.{IsMemo}
use Rattle.op_cache.proofs.Keeping.{kept_memo}
use Rattle.op_cache.proofs.cache.OpCache.held.Goals as goal

pub returns-clause-sound : goal.returns-clause-sound
returns-clause-sound g c =
    let s = c.self.inside in
    subst IsMemo c.self.view_is (kept_memo s.entries s.held (vec_capacity s.pairs) s.pairs.items s.heads.items s.window s.round c.self.invariant)
