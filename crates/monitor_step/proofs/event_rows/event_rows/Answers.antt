use Rattle.std.proofs.Common.{◌≡◌, ℕ, ◌+◌, ◌*◌, ◌<◌, ◌∙◌, sym, ap, refl, subst, arith, List, length, map, take, Some}
use Rattle.std.specs.Prelude.{drop, slice_get, Ok}
use Rattle.std.specs.List.{sum_by}
use Rattle.node_table.specs.Table.{tree_of, IsValid}
use Rattle.node_table.specs.Collects.{AllValid}
use Rattle.bdd_ops.specs.Shelf.{handle_pairs}
use Rattle.operation_rows.specs.Rows.{Update, MakesUpdate}
use Rattle.subformulas.specs.declared.table.Sub.{Sub}
use Rattle.subformulas.specs.Matched.{IsWithin}
use Rattle.subformulas.specs.Memory.{is_temporal}
use Rattle.subformulas.specs.OperationRows.{rows_of}
use Rattle.subformulas.specs.Table.{UsesBelow}
use Rattle.subformulas.proofs.ByNumber.{all_at}
use Rattle.monitor_model.specs.Rows.{update, updates, nth, full_from, nodes_full}
use Rattle.monitor_step.specs.Frame.{frame_of, setting_with, sources_of, IsCodedKind}
use Rattle.monitor_step.specs.RowsMade.{IsReadable}
use Rattle.monitor_step.proofs.Rows.Counted.{none_temporal, place_next}
use Rattle.monitor_step.proofs.Rows.Costs.{rows_counted, rows_most, cost_more, cost_most, cost_by_room}
use Rattle.monitor_step.proofs.Rows.Kinds.{kind_coded}
use Rattle.monitor_step.proofs.Rows.Placed.{trees_after}
use Rattle.monitor_step.proofs.Rows.Made.{at_back, made_from, kids_within, count_trees, start_trees, put_count, left_root, right_root, memory_root, readable_here, update_is, same_full, row_stops, rows_fit, put_both, rows_done}
use Rattle.monitor_step.proofs.event_rows.event_rows.Goals as goal

pub loop-k-init : goal.loop-k-init
loop-k-init g c =
    let plain : 2 * c.args.remembered + 0 ≡ 2 * c.args.remembered = omega arith in
    let before = map (tree_of c.args.store.now.table) (take c.args.remembered c.args.handles.now) in
    record {
      next = sym none_temporal;
      count = refl;
      valid = subst (λ (n : ℕ). AllValid c.args.store.now.table (take n c.args.handles.now)) (sym plain) c.requires.valid;
      trees = start_trees (sources_of c.args.plan.now c.args.store.now.table.room c.args.frame.now before) c.args.store.now.table c.args.handles.now c.args.remembered c.requires.twice;
      fit = refl;
      room = refl;
      shared = c.live-nodes.ensures.shared;
      entries = refl;
      cost = λ large. omega arith;
    }

pub children_of-children-requires-clause-left : goal.children_of-children-requires-clause-left
children_of-children-requires-clause-left g c =
    let w = kids_within c.args.plan.now.subs c.loop-k.k c.sub-sub.result.now c.count-k-end.ensures.sound.table c.sub-sub.ensures in
    let low = w.0 in
    omega (arith, low, c.loop-k.invariant.count, c.requires.handles, c.loop-k-test.true, c.count-k-end.ensures.count)

pub children_of-children-requires-clause-right : goal.children_of-children-requires-clause-right
children_of-children-requires-clause-right g c =
    let w = kids_within c.args.plan.now.subs c.loop-k.k c.sub-sub.result.now c.count-k-end.ensures.sound.table c.sub-sub.ensures in
    let low = w.1 in
    omega (arith, low, c.loop-k.invariant.count, c.requires.handles, c.loop-k-test.true, c.count-k-end.ensures.count)

pub subformula_rows-requires-clause-uses : goal.subformula_rows-requires-clause-uses
subformula_rows-requires-clause-uses g c =
    all_at (λ s. UsesBelow (length c.args.plan.now.variables) s.kind) c.args.plan.now.subs _ c.sub-sub.result.now c.count-k-end.ensures.sound.uses c.sub-sub.ensures

pub subformula_rows-requires-clause-coded : goal.subformula_rows-requires-clause-coded
subformula_rows-requires-clause-coded g c =
    let inv = c.loop-k.invariant in
    let plan = c.args.plan.now in
    let subs = plan.subs in
    let k = c.loop-k.k in
    let hs = c.loop-k.handles in
    let u = c.sub-sub.result.now in
    let at = at_back subs k u c.sub-sub.ensures in
    let room = c.args.store.now.table.room in
    let fr = frame_of (setting_with plan c.args.frame.now.bits room) c.args.frame.now in
    let before = map (tree_of c.args.store.now.table) (take c.args.remembered c.args.handles.now) in
    let count = count_trees c.args.store.now.table c.args.handles.now c.args.remembered (length subs) subs c.requires.handles c.requires.remembered in
    let kids = c.children_of-children.result in
    let memory = subst (λ (n : ℕ). slice_get hs n ≡ Some kids.memory) inv.next c.children_of-children.ensures.memory in
    subst (λ (n : ℕ). IsCodedKind (frame_of (setting_with plan c.args.frame.now.bits n) c.args.frame.now) c.args.frame.now.coded.now u.kind c.slot_of-slot.result) (sym inv.room)
    (kind_coded fr subs c.args.frame.now.coded.now c.args.frame.now.matched.now c.requires.coded k u c.slot_of-slot.result at c.slot_of-slot.ensures)

pub subformula_rows-requires-clause-within : goal.subformula_rows-requires-clause-within
subformula_rows-requires-clause-within g c = subst (IsWithin (length c.args.frame.now.coded.now)) (sym c.slot_of-slot.ensures) (c.requires.within c.loop-k.k)

pub subformula_rows-requires-clause-readable : goal.subformula_rows-requires-clause-readable
subformula_rows-requires-clause-readable g c =
    let inv = c.loop-k.invariant in
    let plan = c.args.plan.now in
    let subs = plan.subs in
    let k = c.loop-k.k in
    let hs = c.loop-k.handles in
    let u = c.sub-sub.result.now in
    let at = at_back subs k u c.sub-sub.ensures in
    let room = c.args.store.now.table.room in
    let fr = frame_of (setting_with plan c.args.frame.now.bits room) c.args.frame.now in
    let before = map (tree_of c.args.store.now.table) (take c.args.remembered c.args.handles.now) in
    let count = count_trees c.args.store.now.table c.args.handles.now c.args.remembered (length subs) subs c.requires.handles c.requires.remembered in
    let kids = c.children_of-children.result in
    let memory = subst (λ (n : ℕ). slice_get hs n ≡ Some kids.memory) inv.next c.children_of-children.ensures.memory in
    subst (λ (n : ℕ). IsReadable (setting_with plan c.args.frame.now.bits n) u.kind (tree_of c.loop-k.store.table kids.left) (tree_of c.loop-k.store.table kids.right) (tree_of c.loop-k.store.table kids.memory)) (sym inv.room)
    (readable_here fr before count k u at c.count-k-end.ensures.sound.table c.loop-k.store.table hs c.args.remembered c.requires.remembered inv.trees kids.left kids.right kids.memory c.children_of-children.ensures.left c.children_of-children.ensures.right memory (c.requires.readable k u at))

pub subformula_rows-requires-clause-left : goal.subformula_rows-requires-clause-left
subformula_rows-requires-clause-left g c =
    let inv = c.loop-k.invariant in
    let plan = c.args.plan.now in
    let subs = plan.subs in
    let k = c.loop-k.k in
    let hs = c.loop-k.handles in
    let u = c.sub-sub.result.now in
    let at = at_back subs k u c.sub-sub.ensures in
    let room = c.args.store.now.table.room in
    let fr = frame_of (setting_with plan c.args.frame.now.bits room) c.args.frame.now in
    let before = map (tree_of c.args.store.now.table) (take c.args.remembered c.args.handles.now) in
    let count = count_trees c.args.store.now.table c.args.handles.now c.args.remembered (length subs) subs c.requires.handles c.requires.remembered in
    let kids = c.children_of-children.result in
    let memory = subst (λ (n : ℕ). slice_get hs n ≡ Some kids.memory) inv.next c.children_of-children.ensures.memory in
    λ o. left_root fr before count k u at c.count-k-end.ensures.sound.table c.loop-k.store.table hs c.args.remembered c.requires.remembered inv.trees kids.left kids.right kids.memory c.children_of-children.ensures.left c.children_of-children.ensures.right memory o

pub subformula_rows-requires-clause-right : goal.subformula_rows-requires-clause-right
subformula_rows-requires-clause-right g c =
    let inv = c.loop-k.invariant in
    let plan = c.args.plan.now in
    let subs = plan.subs in
    let k = c.loop-k.k in
    let hs = c.loop-k.handles in
    let u = c.sub-sub.result.now in
    let at = at_back subs k u c.sub-sub.ensures in
    let room = c.args.store.now.table.room in
    let fr = frame_of (setting_with plan c.args.frame.now.bits room) c.args.frame.now in
    let before = map (tree_of c.args.store.now.table) (take c.args.remembered c.args.handles.now) in
    let count = count_trees c.args.store.now.table c.args.handles.now c.args.remembered (length subs) subs c.requires.handles c.requires.remembered in
    let kids = c.children_of-children.result in
    let memory = subst (λ (n : ℕ). slice_get hs n ≡ Some kids.memory) inv.next c.children_of-children.ensures.memory in
    λ o. right_root fr before count k u at c.count-k-end.ensures.sound.table c.loop-k.store.table hs c.args.remembered c.requires.remembered inv.trees kids.left kids.right kids.memory c.children_of-children.ensures.left c.children_of-children.ensures.right memory o

pub subformula_rows-requires-clause-memory : goal.subformula_rows-requires-clause-memory
subformula_rows-requires-clause-memory g c =
    let inv = c.loop-k.invariant in
    let plan = c.args.plan.now in
    let subs = plan.subs in
    let k = c.loop-k.k in
    let hs = c.loop-k.handles in
    let u = c.sub-sub.result.now in
    let at = at_back subs k u c.sub-sub.ensures in
    let room = c.args.store.now.table.room in
    let fr = frame_of (setting_with plan c.args.frame.now.bits room) c.args.frame.now in
    let before = map (tree_of c.args.store.now.table) (take c.args.remembered c.args.handles.now) in
    let count = count_trees c.args.store.now.table c.args.handles.now c.args.remembered (length subs) subs c.requires.handles c.requires.remembered in
    let kids = c.children_of-children.result in
    let memory = subst (λ (n : ℕ). slice_get hs n ≡ Some kids.memory) inv.next c.children_of-children.ensures.memory in
    λ o. memory_root fr before count k u at c.count-k-end.ensures.sound.table c.loop-k.store.table hs c.args.remembered c.requires.remembered inv.trees kids.left kids.right kids.memory c.children_of-children.ensures.left c.children_of-children.ensures.right memory o

pub returns-in-Err-clause-made : goal.returns-in-Err-clause-made
returns-in-Err-clause-made g c =
    let inv = c.loop-k.invariant in
    let plan = c.args.plan.now in
    let subs = plan.subs in
    let k = c.loop-k.k in
    let hs = c.loop-k.handles in
    let u = c.sub-sub.result.now in
    let at = at_back subs k u c.sub-sub.ensures in
    let room = c.args.store.now.table.room in
    let fr = frame_of (setting_with plan c.args.frame.now.bits room) c.args.frame.now in
    let before = map (tree_of c.args.store.now.table) (take c.args.remembered c.args.handles.now) in
    let count = count_trees c.args.store.now.table c.args.handles.now c.args.remembered (length subs) subs c.requires.handles c.requires.remembered in
    let kids = c.children_of-children.result in
    let memory = subst (λ (n : ℕ). slice_get hs n ≡ Some kids.memory) inv.next c.children_of-children.ensures.memory in
    let trees = update fr u.kind (tree_of c.loop-k.store.table kids.left) (tree_of c.loop-k.store.table kids.right) (tree_of c.loop-k.store.table kids.memory) in
    let was = update (frame_of (setting_with plan c.args.frame.now.bits c.loop-k.store.table.room) c.args.frame.now) u.kind (tree_of c.loop-k.store.table kids.left) (tree_of c.loop-k.store.table kids.right) (tree_of c.loop-k.store.table kids.memory) in
    let moved : was ≡ trees = ap (λ (n : ℕ). update (frame_of (setting_with plan c.args.frame.now.bits n) c.args.frame.now) u.kind (tree_of c.loop-k.store.table kids.left) (tree_of c.loop-k.store.table kids.right) (tree_of c.loop-k.store.table kids.memory)) inv.room in
    let same = moved ∙ update_is fr before count k u at c.count-k-end.ensures.sound.table c.loop-k.store.table hs c.args.remembered c.requires.remembered inv.trees kids.left kids.right kids.memory c.children_of-children.ensures.left c.children_of-children.ensures.right memory in
    let roots = take (2 * c.args.remembered + k) hs in
    row_stops fr before count k u at _ inv.fit (same_full fr before count k u at c.loop-k.store.table c.subformula_rows.new.store.table roots was _ inv.room inv.trees same c.in-Err.ensures.made)

pub returns-in-Err-clause-cost : goal.returns-in-Err-clause-cost
returns-in-Err-clause-cost g c =
    λ large.
    let at = at_back c.args.plan.now.subs c.loop-k.k c.sub-sub.result.now c.sub-sub.ensures in
    let by = λ (s : Sub). rows_of s.kind c.args.frame.now.bits in
    cost_most (sum_by by (take c.loop-k.k c.args.plan.now.subs)) (by c.sub-sub.result.now) (sum_by by c.args.plan.now.subs) c.args.steps.now c.loop-k.steps c.subformula_rows.new.steps (6 * handle_pairs c.args.store.now.table) (c.loop-k.invariant.cost large)
    (cost_by_room c.loop-k.store c.args.store.now c.loop-k.steps c.subformula_rows.new.steps (by c.sub-sub.result.now) c.loop-k.invariant.room c.loop-k.invariant.entries large c.in-Err.ensures.cost) (rows_most by c.args.plan.now.subs c.loop-k.k c.sub-sub.result.now at)

pub loop-k-preserved : goal.loop-k-preserved
loop-k-preserved g c =
    let inv = c.loop-k.invariant in
    let plan = c.args.plan.now in
    let subs = plan.subs in
    let k = c.loop-k.k in
    let hs = c.loop-k.handles in
    let u = c.sub-sub.result.now in
    let at = at_back subs k u c.sub-sub.ensures in
    let room = c.args.store.now.table.room in
    let fr = frame_of (setting_with plan c.args.frame.now.bits room) c.args.frame.now in
    let before = map (tree_of c.args.store.now.table) (take c.args.remembered c.args.handles.now) in
    let count = count_trees c.args.store.now.table c.args.handles.now c.args.remembered (length subs) subs c.requires.handles c.requires.remembered in
    let kids = c.children_of-children.result in
    let memory = subst (λ (n : ℕ). slice_get hs n ≡ Some kids.memory) inv.next c.children_of-children.ensures.memory in
    let trees = update fr u.kind (tree_of c.loop-k.store.table kids.left) (tree_of c.loop-k.store.table kids.right) (tree_of c.loop-k.store.table kids.memory) in
    let was = update (frame_of (setting_with plan c.args.frame.now.bits c.loop-k.store.table.room) c.args.frame.now) u.kind (tree_of c.loop-k.store.table kids.left) (tree_of c.loop-k.store.table kids.right) (tree_of c.loop-k.store.table kids.memory) in
    let moved : was ≡ trees = ap (λ (n : ℕ). update (frame_of (setting_with plan c.args.frame.now.bits n) c.args.frame.now) u.kind (tree_of c.loop-k.store.table kids.left) (tree_of c.loop-k.store.table kids.right) (tree_of c.loop-k.store.table kids.memory)) inv.room in
    let same = moved ∙ update_is fr before count k u at c.count-k-end.ensures.sound.table c.loop-k.store.table hs c.args.remembered c.requires.remembered inv.trees kids.left kids.right kids.memory c.children_of-children.ensures.left c.children_of-children.ensures.right memory in
    let roots = take (2 * c.args.remembered + k) hs in
    let x = c.in-Ok.made in
    let new = c.subformula_rows.new.store.table in
    let own = subst (λ (z : Update). MakesUpdate z roots c.loop-k.store.table new (Ok x)) same c.in-Ok.ensures.made in
    let back = c.subformula_rows.new.handles in
    let front : take (2 * c.args.remembered + k) back ≡ roots = c.subformula_rows.ensures.roots in
    let its_count : length back ≡ length hs = c.subformula_rows.ensures.count in
    let inside : 2 * c.args.remembered + k < length back = omega (arith, its_count, inv.count, c.requires.handles, c.loop-k-test.true, c.count-k-end.ensures.count) in
    let its_trees = ap (map (tree_of c.loop-k.store.table)) front ∙ inv.trees in
    let its_own = subst (λ (hs : List ℕ). MakesUpdate (nth (updates (made_from fr before)) (k + 1)) hs c.loop-k.store.table new (Ok x)) (sym front) own in
    let placed = put_both fr before count k u at c.loop-k.store.table new back c.args.remembered c.loop-k.next c.requires.remembered inv.next inside its_trees x its_own in
    let by = λ (s : Sub). rows_of s.kind c.args.frame.now.bits in
    rw c.put.ensures (record {
      next = place_next subs k c.place_after-next.result c.loop-k.next u at inv.next c.place_after-next.ensures;
      count = put_count (is_temporal u.kind) back (c.args.remembered + c.loop-k.next) x.next (2 * c.args.remembered + k) x.now ∙ (its_count ∙ inv.count);
      valid = placed.valid;
      trees = placed.trees_are;
      fit = rows_fit fr before count k u at inv.fit (same_full fr before count k u at c.loop-k.store.table new roots was (Ok x) inv.room inv.trees same c.in-Ok.ensures.made);
      room = c.in-Ok.ensures.made.room ∙ inv.room;
      shared = own.shared;
      entries = c.subformula_rows.ensures.entries ∙ inv.entries;
      cost = λ large.
          cost_more (sum_by by (take k subs)) (by u) (sum_by by (take (k + 1) subs)) c.args.steps.now c.loop-k.steps c.subformula_rows.new.steps (6 * handle_pairs c.args.store.now.table) (inv.cost large)
          (cost_by_room c.loop-k.store c.args.store.now c.loop-k.steps c.subformula_rows.new.steps (by u) inv.room inv.entries large c.subformula_rows.ensures.cost) (sym (rows_counted by subs k u at));
    })

pub returns-clause-made : goal.returns-clause-made
returns-clause-made g c =
    let inv = c.loop-k.invariant in
    let plan = c.args.plan.now in
    let subs = plan.subs in
    let hs = c.loop-k.handles in
    let fr = frame_of (setting_with plan c.args.frame.now.bits c.args.store.now.table.room) c.args.frame.now in
    let before = map (tree_of c.args.store.now.table) (take c.args.remembered c.args.handles.now) in
    let count = count_trees c.args.store.now.table c.args.handles.now c.args.remembered (length subs) subs c.requires.handles c.requires.remembered in
    let all : c.loop-k.k ≡ length subs = omega (arith, c.loop-k.auto.k-end, c.loop-k-test.false, c.count-k-end.ensures.count) in
    let leaf = subst (λ t. IsValid t c.zero.result) c.table.ensures c.zero.ensures.valid in
    let source = sources_of plan c.args.store.now.table.room c.args.frame.now before in
    rows_done fr before count c.loop-k.store.table c.args.store.now.table c.args.handles.now hs c.clear_letters.new.handles c.args.remembered c.zero.result c.requires.remembered
    c.requires.handles inv.count refl c.clear_letters.ensures
    (subst (λ (n : ℕ). AllValid c.loop-k.store.table (take (2 * c.args.remembered + n) hs)) all inv.valid) leaf
    (subst (λ (n : ℕ). map (tree_of c.loop-k.store.table) (take (2 * c.args.remembered + n) hs) ≡ trees_after source before n) all inv.trees)
    (subst (λ (n : ℕ). nodes_full source ≡ full_from source (n + 1) (drop n (updates source))) all inv.fit)
