use Rattle.std.proofs.Common.{◌<◌, ◌≤◌, length, arith}
use Rattle.std.specs.Vec.{vec_capacity}
use Rattle.std.proofs.lemmas.List.Elements.{All-weaker}
use Rattle.op_cache.specs.declared.heads.Head.{Head}
use Rattle.op_cache.proofs.Keeping.{kept_none, kept_memo}
use Rattle.op_cache.proofs.cache.OpCache.open.Goals as goal

pub invariant_of-result : goal.invariant_of-result
invariant_of-result g c =
    let pairs = c.in_ok-with_capacity.field-0 in
    let heads = c.reach.new.heads in
    let wide : 128 ≤ length heads.items = omega arith in
    kept_none c.args.entries (vec_capacity pairs) pairs.items heads.items 128 1 c.in_ok-with_capacity.ensures.capacity (omega arith) wide
    (All-weaker (λ (h : Head). h.round ≤ 0) (λ (h : Head). h.round < 1) (λ h x. omega arith) heads.items c.reach.ensures.rounds)

pub returns-clause-sound : goal.returns-clause-sound
returns-clause-sound g c =
    let pairs = c.in_ok-with_capacity.field-0 in
    let heads = c.reach.new.heads in
    kept_memo c.args.entries 0 (vec_capacity pairs) pairs.items heads.items 128 1 (invariant_of-result g c)
