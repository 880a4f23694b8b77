use Rattle.std.proofs.Common.{◌≡◌, ℕ, ◌+◌, ◌-◌, ◌*◌, ◌<◌, ◌≤◌, ◌∙◌, length, sym, ap, subst, arith, true}
use Rattle.std.specs.Prelude.{slice_index_or}
use Rattle.std.proofs.lemmas.List.{get_or_read}
use Rattle.node_tree.specs.Tree.{Tree}
use Rattle.node_table.specs.Table.{tree_of, IsValid}
use Rattle.monitor_model.specs.Shape.{HasOwnLevels, ReadsAlike}
use Rattle.monitor_model.specs.State.{State, IsLive, IsMonitor, kept, now_of, pairs_in, setting_of}
use Rattle.monitor_step.proofs.Rows.Kept.{now_tree}
use Rattle.monitor_step.proofs.monitor.Monitor.now.Goals as goal

-- what holds of a tree that a live monitor has at its last event
shown : (m : State) (k : ℕ) (t : Tree) → IsLive m → m.has_now ≡ true → 1 ≤ k →
    k ≤ length m.plan.subs → t ≡ now_of m k →
    HasOwnLevels (setting_of m) k t × ReadsAlike (setting_of m) (pairs_in m) t
shown m k t live judged low high same =
    let results = live.now judged in (
      subst (HasOwnLevels (setting_of m) k) (sym same) (results.shape k low high),
      subst (ReadsAlike (setting_of m) (pairs_in m)) (sym same) (results.alike k low high),
    )

-- the tree of a handle of every monitor
its_tree : (m : State) (k h : ℕ) → IsMonitor m → 1 ≤ k → k ≤ length m.plan.subs →
    h ≡ slice_index_or m.handles (2 * kept m + k - 1) 0 → tree_of m.shelf.table h ≡ now_of m k
its_tree m k h monitor = now_tree m monitor.handle_count k h

pub returns : goal.returns
returns c =
    let hs = c.self.inside.handles.items in
    let m = c.args.self.now in
    let within = subst (λ (m : State). c.args.k ≤ length m.plan.subs) (sym c.self.view_is) c.requires.to in
    let live_inside = subst (λ (m : State). m.live ≡ true) (sym c.self.view_is) c.requires.live in
    let count = c.self.invariant.0.handle_count in
    let first = c.self.invariant.1 in
    let place : 2 * c.self.inside.remembered + c.args.k - 1 < length hs = omega (arith, count, first, within, c.requires.from) in
    let read = get_or_read hs (2 * c.self.inside.remembered + c.args.k - 1) c.index.result.now place c.index.ensures 0 in
    let tree = subst (λ (m : State). tree_of m.shelf.table c.index.result.now ≡ now_of m c.args.k) c.self.view_is
    (its_tree _ c.args.k c.index.result.now c.self.invariant.0 c.requires.from within (read ∙ ap (λ (n : ℕ). slice_index_or hs (2 * n + c.args.k - 1) 0) first)) in
    let live : IsLive m = subst IsLive c.self.view_is (c.self.invariant.2 live_inside) in
    let valid = subst (λ (m : State). IsValid m.shelf.table c.index.result.now) c.self.view_is
    (subst (λ (h : ℕ). IsValid c.self.inside.store.table h) (sym read) ((c.self.invariant.2 live_inside).valid _ place)) in
    record {
      valid = valid;
      tree = tree;
      shape = λ judged. (shown m c.args.k _ live judged c.requires.from c.requires.to tree).0;
      alike = λ judged. (shown m c.args.k _ live judged c.requires.from c.requires.to tree).1;
    }
