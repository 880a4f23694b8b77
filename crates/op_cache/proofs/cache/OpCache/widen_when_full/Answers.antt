use Rattle.std.proofs.Common.{◌≡◌, ◌<◌, ◌≤◌, ◌*◌, ◌∙◌, ap, length, take, drop, ◌++◌, sym, subst, arith, List}
use Rattle.std.specs.Vec.{vec_capacity}
use Rattle.op_cache.specs.declared.key.Place.{Place}
use Rattle.op_cache.specs.declared.heads.Head.{Head}
use Rattle.op_cache.specs.declared.chains.Entry.{Entry}
use Rattle.op_cache.specs.Chains.{pairs_of}
use Rattle.op_cache.specs.Kept.{IsKept}
use Rattle.op_cache.proofs.Keeping.{kept_relinked, front_same, lent_back}
use Rattle.op_cache.proofs.cache.OpCache.widen_when_full.Goals as goal

pub invariant_of-self : goal.invariant_of-self
invariant_of-self g c =
    let s = c.self.inside in
    let r = c.next_round-self-inside.result in
    let w = s.window * 2 in
    let new = c.relink.new.entries in
    let heads = c.relink.new.heads in
    let k = c.self.invariant in
    let some : 0 < w = omega arith in
    let wide : w ≤ length heads = omega arith in
    let same : pairs_of new ≡ pairs_of s.pairs.items = c.relink.ensures.pairs ∙ ap pairs_of c.deref_mut-2.ensures.value in
    let all_heads = lent_back heads (take c.reach.new.heads.len (c.next_round-self-inside.new.heads ++ drop (length c.next_round-self-inside.new.heads) c.reach.new.heads.items)) c.reach.new.heads.len (omega arith) in
    let all_pairs = lent_back new s.pairs.items s.pairs.len (omega arith) in
    let kept = kept_relinked s.entries s.held (vec_capacity s.pairs) s.pairs.items new s.heads.items heads s.window w s.round r k same some wide c.relink.ensures.rounds c.relink.ensures.linked in
    subst (λ (es : List (Entry g.row.H.Denot)). IsKept s.entries s.held (vec_capacity s.pairs) es (take c.reach.new.heads.len (heads ++ drop (length heads) (take c.reach.new.heads.len (c.next_round-self-inside.new.heads ++ drop (length c.next_round-self-inside.new.heads) c.reach.new.heads.items)))) w r) (sym all_pairs)
    (subst (λ (hs : List Head). IsKept s.entries s.held (vec_capacity s.pairs) new hs w r) (sym all_heads) kept)

pub returns : goal.returns
returns g c =
    let s = c.self.inside in
    let new = c.relink.new.entries in
    let same : pairs_of new ≡ pairs_of s.pairs.items = c.relink.ensures.pairs ∙ ap pairs_of c.deref_mut-2.ensures.value in
    let all_pairs = lent_back new s.pairs.items s.pairs.len (omega arith) in
    ap (λ (ps : List (Place × g.row.H.Denot)). record { entries = s.entries; pairs = ps }) (ap (λ (es : List (Entry g.row.H.Denot)). pairs_of (take s.held es)) all_pairs ∙ front_same s.held new s.pairs.items same) ∙ c.self.view_is
