use Rattle.std.proofs.Common.{◌≡◌, ◌<◌, ◌∙◌, ℕ, List, length, drop, take, ◌++◌, ap, subst, arith, sym}
use Rattle.std.proofs.lemmas.List.{length-replicate}
use Rattle.std.specs.Prelude.{true}
use Rattle.node_table.specs.declared.arrays.Slot.{Slot}
use Rattle.node_table.specs.Unfold.{is_valid}
use Rattle.node_table.specs.Table.{Table, IsShared}
use Rattle.node_table.specs.Arrays.{notes_of, node_in, table_of, IsKept}
use Rattle.node_table.specs.Marks.{MarksNodes, MarksTrees, swept_from}
use Rattle.node_table.specs.Collects.{AllValid, Collects}
use Rattle.node_table.proofs.Keeping.{came_back}
use Rattle.node_table.proofs.Sharing.{shared}
use Rattle.std.specs.Prelude.{slice_index_or}
use Rattle.node_table.proofs.Keeps.{valid_inside, left_table, left_kept, left_collected}
use Rattle.node_table.proofs.table.NodeTable.collect.Goals as goal

pub mark_trees-live-requires-clause-roots : goal.mark_trees-live-requires-clause-roots
mark_trees-live-requires-clause-roots c =
    subst (λ (s : List Slot). (j : ℕ) → j < length c.args.roots.now → is_valid (node_in s) (slice_index_or c.args.roots.now j 0) ≡ true) (sym c.deref.ensures.value)
    (valid_inside c.self.inside.room c.self.inside.slots.items (notes_of c.self.inside.marks.items c.self.inside.found.items c.self.inside.round) c.args.roots.now (subst (λ t. AllValid t c.args.roots.now) (sym c.self.view_is) c.requires.roots))

pub mark_trees-live-requires-clause-more : goal.mark_trees-live-requires-clause-more
mark_trees-live-requires-clause-more c =
    subst (λ (s : List Slot). (j : ℕ) → j < length c.args.more.now → is_valid (node_in s) (slice_index_or c.args.more.now j 0) ≡ true) (sym c.deref.ensures.value)
    (valid_inside c.self.inside.room c.self.inside.slots.items (notes_of c.self.inside.marks.items c.self.inside.found.items c.self.inside.round) c.args.more.now (subst (λ t. AllValid t c.args.more.now) (sym c.self.view_is) c.requires.more))

pub rebuild-free-requires-clause-nodes : goal.rebuild-free-requires-clause-nodes
rebuild-free-requires-clause-nodes c =
    let marks = c.mark_trees-live.new.marks in
    let round = c.new_round-round.result in
    let long : c.self.inside.marks.len ≡ length marks = omega arith in
    let same : c.deref-2.result.now ≡ marks = c.deref-2.ensures.value ∙ came_back c.self.inside.marks.len marks _ long in
    let slots : c.deref.result.now ≡ c.deref_mut-3.result.now = c.deref.ensures.value ∙ sym c.deref_mut-3.ensures.value in
    subst (λ (m : List ℕ). MarksNodes (node_in c.deref_mut-3.result.now) m round) (sym same)
    (subst (λ (s : List Slot). MarksNodes (node_in s) marks round) slots c.mark_trees-live.ensures.trees.nodes)

-- the buckets are as many as were set up
buckets_there : (c : goal.After-self-7-1) → length c.rebuild-free.new.heads ≡ c.buckets_for-buckets.result
buckets_there c =
    let e : length c.set_up.new.heads.items ≡ c.buckets_for-buckets.result = ap (λ (hs : List ℕ). length hs) c.set_up.ensures.empty ∙ length-replicate c.buckets_for-buckets.result 0 in
    omega (arith, e)

-- the arrays after the collection
left : (c : goal.After-self-7-1) →
    let new : Table = table_of c.self.inside.room c.rebuild-free.new.slots (notes_of c.mark_trees-live.new.marks c.mark_trees-live.new.waiting.items c.new_round-round.result) in
    IsKept c.self.inside.room c.rebuild-free.new.slots c.rebuild-free.new.heads c.mark_trees-live.new.marks c.rebuild-free.result c.new_round-round.result c.mark_trees-live.result × IsShared new × Collects (table_of c.self.inside.room c.self.inside.slots.items (notes_of c.self.inside.marks.items c.self.inside.found.items c.self.inside.round)) new c.args.roots.now c.args.more.now
left c =
    let kept = c.self.invariant.0 in
    let slots = c.self.inside.slots.items in
    let marks = c.mark_trees-live.new.marks in
    let round = c.new_round-round.result in
    let long : c.self.inside.marks.len ≡ length marks = omega arith in
    let same : c.deref-2.result.now ≡ marks = c.deref-2.ensures.value ∙ came_back c.self.inside.marks.len marks _ long in
    let trees = subst (λ (s : List Slot). MarksTrees (node_in s) marks round c.args.roots.now c.args.more.now) c.deref.ensures.value c.mark_trees-live.ensures.trees in
    let swept = subst (λ (m : List ℕ). (h : ℕ) → node_in c.rebuild-free.new.slots h ≡ swept_from (node_in slots) m round 2 h) same
    (subst (λ (s : List Slot). (h : ℕ) → node_in c.rebuild-free.new.slots h ≡ swept_from (node_in s) c.deref-2.result.now round 2 h) c.deref_mut-3.ensures.value c.rebuild-free.ensures.left) in
    let as_long : length c.rebuild-free.new.slots ≡ length slots = omega arith in
    let some : 0 < length c.rebuild-free.new.heads = omega (arith, c.buckets_for-buckets.ensures.some, buckets_there c) in
    let places : length marks ≡ length c.self.inside.marks.items = omega arith in
    let roots = subst (λ t. AllValid t c.args.roots.now) (sym c.self.view_is) c.requires.roots in
    let more = subst (λ t. AllValid t c.args.more.now) (sym c.self.view_is) c.requires.more in (
      left_kept c.self.inside.room slots c.self.inside.heads.items c.self.inside.marks.items c.self.inside.free c.self.inside.round c.self.inside.live kept
          c.rebuild-free.new.slots c.rebuild-free.new.heads marks c.rebuild-free.result round c.args.roots.now c.args.more.now trees swept c.rebuild-free.ensures.chained c.rebuild-free.ensures.free as_long some places (notes_of c.self.inside.marks.items c.self.inside.found.items c.self.inside.round) (notes_of c.mark_trees-live.new.marks c.mark_trees-live.new.waiting.items c.new_round-round.result)
          c.mark_trees-live.ensures.rounds c.new_round-round.ensures.started c.mark_trees-live.result c.mark_trees-live.ensures.count,
      shared (table_of c.self.inside.room c.rebuild-free.new.slots (notes_of c.mark_trees-live.new.marks c.mark_trees-live.new.waiting.items c.new_round-round.result)) (left_table c.self.inside.room slots c.self.inside.heads.items c.self.inside.marks.items c.self.inside.free c.self.inside.round c.self.inside.live kept
          c.rebuild-free.new.slots c.rebuild-free.new.heads marks c.rebuild-free.result round c.args.roots.now c.args.more.now trees swept c.rebuild-free.ensures.chained c.rebuild-free.ensures.free as_long some places (notes_of c.self.inside.marks.items c.self.inside.found.items c.self.inside.round) (notes_of c.mark_trees-live.new.marks c.mark_trees-live.new.waiting.items c.new_round-round.result)),
      left_collected c.self.inside.room slots c.self.inside.heads.items c.self.inside.marks.items c.self.inside.free c.self.inside.round c.self.inside.live kept
          c.rebuild-free.new.slots c.rebuild-free.new.heads marks c.rebuild-free.result round c.args.roots.now c.args.more.now trees swept c.rebuild-free.ensures.chained c.rebuild-free.ensures.free as_long some places (notes_of c.self.inside.marks.items c.self.inside.found.items c.self.inside.round) (notes_of c.mark_trees-live.new.marks c.mark_trees-live.new.waiting.items c.new_round-round.result) roots more,
    )

-- what came back from the slices
slots_back : (c : goal.After-self-7-1) → take c.self.inside.slots.len (c.rebuild-free.new.slots ++ drop (length c.rebuild-free.new.slots) c.self.inside.slots.items) ≡ c.rebuild-free.new.slots
slots_back c = let long : c.self.inside.slots.len ≡ length c.rebuild-free.new.slots = omega arith in came_back c.self.inside.slots.len c.rebuild-free.new.slots _ long

heads_back : (c : goal.After-self-7-1) → take c.set_up.new.heads.len (c.rebuild-free.new.heads ++ drop (length c.rebuild-free.new.heads) c.set_up.new.heads.items) ≡ c.rebuild-free.new.heads
heads_back c = let long : c.set_up.new.heads.len ≡ length c.rebuild-free.new.heads = omega arith in came_back c.set_up.new.heads.len c.rebuild-free.new.heads _ long

marks_back : (c : goal.After-self-7-1) (rest : List ℕ) → take c.self.inside.marks.len (c.mark_trees-live.new.marks ++ rest) ≡ c.mark_trees-live.new.marks
marks_back c rest = let long : c.self.inside.marks.len ≡ length c.mark_trees-live.new.marks = omega arith in came_back c.self.inside.marks.len c.mark_trees-live.new.marks rest long

-- what holds of the three lists holds of them as they came back
all_back : (P : List Slot → List ℕ → List ℕ → Type 0) (c : goal.After-self-7-1) → P c.rebuild-free.new.slots c.rebuild-free.new.heads c.mark_trees-live.new.marks →
    P (take c.self.inside.slots.len (c.rebuild-free.new.slots ++ drop (length c.rebuild-free.new.slots) c.self.inside.slots.items)) (take c.set_up.new.heads.len (c.rebuild-free.new.heads ++ drop (length c.rebuild-free.new.heads) c.set_up.new.heads.items))
    (take c.self.inside.marks.len (c.mark_trees-live.new.marks ++ drop (length c.mark_trees-live.new.marks) (take c.self.inside.marks.len (c.new_round-round.new.marks ++ drop (length c.new_round-round.new.marks) c.self.inside.marks.items))))
all_back P c p =
    let slots = take c.self.inside.slots.len (c.rebuild-free.new.slots ++ drop (length c.rebuild-free.new.slots) c.self.inside.slots.items) in
    let heads = take c.set_up.new.heads.len (c.rebuild-free.new.heads ++ drop (length c.rebuild-free.new.heads) c.set_up.new.heads.items) in
    let rest = drop (length c.mark_trees-live.new.marks) (take c.self.inside.marks.len (c.new_round-round.new.marks ++ drop (length c.new_round-round.new.marks) c.self.inside.marks.items)) in
    subst (λ (m : List ℕ). P slots heads m) (sym (marks_back c rest))
    (subst (λ (h : List ℕ). P slots h c.mark_trees-live.new.marks) (sym (heads_back c))
    (subst (λ (z : List Slot). P z c.rebuild-free.new.heads c.mark_trees-live.new.marks) (sym (slots_back c)) p))

pub invariant_of-self : goal.invariant_of-self
invariant_of-self c = (
  all_back (λ s h m. IsKept c.self.inside.room s h m c.rebuild-free.result c.new_round-round.result c.mark_trees-live.result) c (left c).0,
  c.self.invariant.1,
  c.self.invariant.2,
  omega (arith, c.self.invariant.3, c.mark_trees-live.ensures.room),
)

pub returns-clause-collected : goal.returns-clause-collected
returns-clause-collected c =
    all_back (λ s h m. Collects c.args.self.now (table_of c.self.inside.room s (notes_of m c.mark_trees-live.new.waiting.items c.new_round-round.result)) c.args.roots.now c.args.more.now) c
    (subst (λ (t : Table). Collects t (table_of c.self.inside.room c.rebuild-free.new.slots (notes_of c.mark_trees-live.new.marks c.mark_trees-live.new.waiting.items c.new_round-round.result)) c.args.roots.now c.args.more.now) c.self.view_is (left c).2)

pub returns-clause-shared : goal.returns-clause-shared
returns-clause-shared c = all_back (λ s h m. IsShared (table_of c.self.inside.room s (notes_of m c.mark_trees-live.new.waiting.items c.new_round-round.result))) c (left c).1
