use Rattle.std.proofs.Common.{◌≡◌, ℕ, ◌-◌, ◌<◌, ◌∙◌, length, true, refl, sym, ap, subst, Some, None, Option, take}
use Rattle.std.specs.Prelude.{slice_index_or, slice_get, IfSome}
use Rattle.std.proofs.lemmas.List.{get_or_read}
use Rattle.subformulas.specs.Memory.{IsTemporal}
use Rattle.node_tree.specs.Tree.{Tree}
use Rattle.node_table.specs.Table.{tree_of, IsValid}
use Rattle.monitor_model.specs.Shape.{HasMemoryShape, ReadsAlike, oldest}
use Rattle.monitor_model.specs.State.{State, IsLive, IsMonitor, memory_of, temporal_count, pairs_in, setting_of}
use Rattle.monitor_step.proofs.Rows.Kept.{memory_place, memory_tree}
use Rattle.monitor_step.proofs.monitor.Monitor.memory.Goals as goal

of_some : {A : Type 0} (o : Option A) (P : A → Type 0) → ((a : A) → o ≡ Some a → P a) → IfSome o P
of_some None P h = tt
of_some (Some a) P h = h a refl

-- what holds of a tree that a live monitor remembers
shown : (m : State) (k : ℕ) (t : Tree) → IsLive m → IsTemporal m.plan.subs k → t ≡ memory_of m k →
    IfSome (slice_get m.plan.subs (k - 1)) (λ u. HasMemoryShape (setting_of m) k (oldest u.kind) t) ×
    ReadsAlike (setting_of m) (pairs_in m) t
shown m k t live temporal same = (
  of_some (slice_get m.plan.subs (k - 1)) (λ u. HasMemoryShape (setting_of m) k (oldest u.kind) t)
      (λ u at. subst (HasMemoryShape (setting_of m) k (oldest u.kind)) (sym same) (live.memory.shape k u at temporal)),
  subst (ReadsAlike (setting_of m) (pairs_in m)) (sym same) (live.memory.alike k temporal),
)

-- the place of a remembered handle, and its tree, of every monitor
its_place : (m : State) (k : ℕ) → IsMonitor m → IsTemporal m.plan.subs k →
    temporal_count (take (k - 1) m.plan.subs) < length m.handles
its_place m k monitor = memory_place m monitor.handle_count k

its_tree : (m : State) (k h : ℕ) → IsMonitor m → IsTemporal m.plan.subs k →
    h ≡ slice_index_or m.handles (temporal_count (take (k - 1) m.plan.subs)) 0 →
    tree_of m.shelf.table h ≡ memory_of m k
its_tree m k h monitor = memory_tree m monitor.handle_count k h

pub returns : goal.returns
returns c =
    let hs = c.self.inside.handles.items in
    let m = c.args.self.now in
    let temporal = subst (λ (m : State). IsTemporal m.plan.subs c.args.k) (sym c.self.view_is) c.requires.temporal in
    let live_inside = subst (λ (m : State). m.live ≡ true) (sym c.self.view_is) c.requires.live in
    let monitor = c.self.invariant.0 in
    let place = subst (λ (n : ℕ). n < length hs) (sym c.temporal_before.ensures) (its_place _ c.args.k monitor temporal) in
    let read = get_or_read hs c.temporal_before.result c.index.result.now place c.index.ensures 0 in
    let tree = subst (λ (m : State). tree_of m.shelf.table c.index.result.now ≡ memory_of m c.args.k) c.self.view_is
    (its_tree _ c.args.k c.index.result.now monitor temporal (read ∙ ap (λ (n : ℕ). slice_index_or hs n 0) c.temporal_before.ensures)) in
    let live : IsLive m = subst IsLive c.self.view_is (c.self.invariant.2 live_inside) in
    record {
      valid = subst (λ (m : State). IsValid m.shelf.table c.index.result.now) c.self.view_is
          (subst (λ (h : ℕ). IsValid c.self.inside.store.table h) (sym read) ((c.self.invariant.2 live_inside).valid c.temporal_before.result place));
      tree = tree;
      shape = (shown m c.args.k _ live c.requires.temporal tree).0;
      alike = (shown m c.args.k _ live c.requires.temporal tree).1;
    }
