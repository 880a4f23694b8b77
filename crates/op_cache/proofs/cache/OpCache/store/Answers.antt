use Rattle.std.proofs.Common.{◌≡◌, ◌+◌, ◌<◌, ◌≤◌, ◌∙◌, ap, length, take, drop, ◌++◌, ◌∷◌, [], sym, subst, arith, List, None}
use Rattle.std.specs.Vec.{vec_capacity}
use Rattle.op_cache.specs.declared.key.Place.{Place}
use Rattle.op_cache.specs.declared.heads.Head.{Head}
use Rattle.op_cache.specs.declared.chains.Entry.{Entry}
use Rattle.op_cache.specs.Keys.{place_of}
use Rattle.op_cache.specs.Memo.{Memo, IsMemo, Adds, result_at}
use Rattle.op_cache.specs.Chains.{pairs_of}
use Rattle.op_cache.specs.Kept.{IsKept}
use Rattle.op_cache.proofs.Pairs.{adds}
use Rattle.op_cache.proofs.Keeping.{kept_memo, kept_stored, pairs_stored, memo_stored, lent_back}
use Rattle.op_cache.proofs.cache.OpCache.store.Goals as goal

pub returns-then-self-clause-sound : goal.returns-then-self-clause-sound
returns-then-self-clause-sound g c =
    let s = c.self.inside in
    subst IsMemo c.self.view_is (kept_memo s.entries s.held (vec_capacity s.pairs) s.pairs.items s.heads.items s.window s.round c.self.invariant)

pub invariant_of-self : goal.invariant_of-self
invariant_of-self g c =
    let s = c.self.inside in
    let e : Entry g.row.H.Denot = record { place = c.of.result; result = c.args.answer; link = 0 } in
    let put = c.put.new.entries in
    let new = c.link_entry.new.entries in
    let heads = c.link_entry.new.heads in
    let same : pairs_of new ≡ pairs_of put.items = c.link_entry.ensures.pairs ∙ ap pairs_of c.deref_mut.ensures.value in
    let none : result_at (pairs_of (take s.held s.pairs.items)) e.place ≡ None =
    ap (λ (p : Place). result_at (pairs_of (take s.held s.pairs.items)) p) c.of.ensures ∙ (ap (λ (m : Memo g.row.H.Denot). result_at m.pairs (place_of g.H.Numbered.number c.args.key)) c.self.view_is ∙ c.requires) in
    let few : s.held < s.entries = omega arith in
    let k = c.self.invariant in
    let wide : s.window ≤ length heads = omega arith in
    let all_heads = lent_back heads s.heads.items s.heads.len (omega arith) in
    let all_pairs = lent_back new put.items put.len (omega arith) in
    let kept = kept_stored s.entries s.held (vec_capacity s.pairs) s.pairs.items s.heads.items s.window s.round k e put.items new c.put.ensures.put same heads (vec_capacity put) few c.put.ensures.room wide c.link_entry.ensures.rounds c.link_entry.ensures.linked none in
    subst (λ (es : List (Entry g.row.H.Denot)). IsKept s.entries (s.held + 1) (vec_capacity put) es (take s.heads.len (heads ++ drop (length heads) s.heads.items)) s.window s.round) (sym all_pairs)
    (subst (λ (hs : List Head). IsKept s.entries (s.held + 1) (vec_capacity put) new hs s.window s.round) (sym all_heads) kept)

pub returns-clause-stored : goal.returns-clause-stored
returns-clause-stored g c = λ _.
    let s = c.self.inside in
    let e : Entry g.row.H.Denot = record { place = c.of.result; result = c.args.answer; link = 0 } in
    let put = c.put.new.entries in
    let new = c.link_entry.new.entries in
    let old = c.args.self.now in
    let p = place_of g.H.Numbered.number c.args.key in
    let same : pairs_of new ≡ pairs_of put.items = c.link_entry.ensures.pairs ∙ ap pairs_of c.deref_mut.ensures.value in
    let all_pairs = lent_back new put.items put.len (omega arith) in
    let at_end = pairs_stored s.entries s.held (vec_capacity s.pairs) s.pairs.items s.heads.items s.window s.round c.self.invariant e put.items new c.put.ensures.put same in
    let by_view : pairs_of (take s.held s.pairs.items) ++ (c.of.result, c.args.answer) ∷ [] ≡ old.pairs ++ (c.of.result, c.args.answer) ∷ [] = ap (λ (m : Memo g.row.H.Denot). m.pairs ++ (c.of.result, c.args.answer) ∷ []) c.self.view_is in
    let by_place : old.pairs ++ (c.of.result, c.args.answer) ∷ [] ≡ old.pairs ++ (p, c.args.answer) ∷ [] = ap (λ (q : Place). old.pairs ++ (q, c.args.answer) ∷ []) c.of.ensures in
    let whole : c.widen_when_full.new.self.pairs ≡ pairs_of (take (s.held + 1) new) = ap (λ (m : Memo g.row.H.Denot). m.pairs) c.widen_when_full.ensures ∙ ap (λ (es : List (Entry g.row.H.Denot)). pairs_of (take (s.held + 1) es)) all_pairs in
    subst (λ (ps : List (Place × g.row.H.Denot)). Adds old.pairs p c.args.answer ps) (sym (whole ∙ (at_end ∙ (by_view ∙ by_place)))) (adds old.pairs p c.args.answer c.requires)

pub returns-clause-sound : goal.returns-clause-sound
returns-clause-sound g c =
    let s = c.self.inside in
    let e : Entry g.row.H.Denot = record { place = c.of.result; result = c.args.answer; link = 0 } in
    let put = c.put.new.entries in
    let new = c.link_entry.new.entries in
    let same : pairs_of new ≡ pairs_of put.items = c.link_entry.ensures.pairs ∙ ap pairs_of c.deref_mut.ensures.value in
    let none : result_at (pairs_of (take s.held s.pairs.items)) e.place ≡ None =
    ap (λ (p : Place). result_at (pairs_of (take s.held s.pairs.items)) p) c.of.ensures ∙ (ap (λ (m : Memo g.row.H.Denot). result_at m.pairs (place_of g.H.Numbered.number c.args.key)) c.self.view_is ∙ c.requires) in
    let few : s.held < s.entries = omega arith in
    let all_pairs = lent_back new put.items put.len (omega arith) in
    let sound = memo_stored s.entries s.held (vec_capacity s.pairs) s.pairs.items s.heads.items s.window s.round c.self.invariant e put.items new c.put.ensures.put same few none in
    let after : c.widen_when_full.new.self ≡ record { entries = s.entries; pairs = pairs_of (take (s.held + 1) new) } =
    c.widen_when_full.ensures ∙ ap (λ (es : List (Entry g.row.H.Denot)). record { entries = s.entries; pairs = pairs_of (take (s.held + 1) es) }) all_pairs in
    subst IsMemo (sym after) sound
