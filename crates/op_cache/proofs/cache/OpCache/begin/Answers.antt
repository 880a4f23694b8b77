use Rattle.std.proofs.Common.{◌<◌, ◌≤◌, length, sym, subst, arith, List}
use Rattle.std.specs.Vec.{vec_capacity}
use Rattle.op_cache.specs.declared.heads.Head.{Head}
use Rattle.op_cache.specs.Kept.{IsKept}
use Rattle.op_cache.proofs.Keeping.{kept_none, kept_memo, lent_back}
use Rattle.op_cache.proofs.cache.OpCache.begin.Goals as goal

pub invariant_of-self : goal.invariant_of-self
invariant_of-self g c =
    let s = c.self.inside in
    let new = c.next_round-self-inside.new.heads in
    let back = lent_back new s.heads.items s.heads.len (omega arith) in
    let k = c.self.invariant in
    let wide : c.min-self-inside.result ≤ length new = omega arith in
    let some : 0 < c.min-self-inside.result = omega arith in
    subst (λ (hs : List Head). IsKept s.entries 0 (vec_capacity s.pairs) s.pairs.items hs c.min-self-inside.result c.next_round-self-inside.result) (sym back)
    (kept_none s.entries (vec_capacity s.pairs) s.pairs.items new c.min-self-inside.result c.next_round-self-inside.result k.roomy some wide c.next_round-self-inside.ensures)

pub returns-clause-sound : goal.returns-clause-sound
returns-clause-sound g c =
    let s = c.self.inside in
    kept_memo s.entries 0 (vec_capacity s.pairs) s.pairs.items _ c.min-self-inside.result c.next_round-self-inside.result (invariant_of-self g c)
