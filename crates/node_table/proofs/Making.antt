-- What each way through `make` leaves.
use Rattle.std.proofs.Common.{◌≡◌, ℕ, ◌+◌, ◌<◌, ◌≤◌, refl, ap, sym, ◌∙◌, arith, subst, length}
use Rattle.std.specs.Prelude.{true, false, cond, ◌==◌, Some, None, ◌≢◌}
use Rattle.std.specs.Set.{is_member}
use Rattle.std.proofs.lemmas.Bool.Decides.{Decides-eqb}
use Rattle.node_tree.specs.Tree.{Tree, Branch, tree_eq, join, top}
use Rattle.node_tree.proofs.Joins.{join-apart, join-same}
use Rattle.node_table.specs.declared.node.Node.{Node}
use Rattle.node_table.specs.Table.{Table, node_at, tree_of, IsValid, held, live_of, need, KeepsTrees, HoldsAlso, IsTable, IsShared}
use Rattle.node_table.proofs.Unfolds.{tree_at-node, tree_at-one_number}
use Rattle.node_table.proofs.Numbers.{all_taken}
use Rattle.node_table.proofs.Sharing.{held-branches, live-need, holds_already, need-one, shared, only_tree, valid_from_found, put_is_table, put_keeps, put_tree, put_also}

-- a call that gives the handle h for the tree
pub record MakesNode (old new : Table) (tree : Tree) (h : ℕ) : Type 0 where
  pub valid : IsValid new h
  pub made : tree_of new h ≡ tree
  pub kept : KeepsTrees old new
  pub held : HoldsAlso old new tree
  pub live : live_of new ≡ need old tree
  pub small : need old tree ≤ old.room
  pub shared : IsShared new

makes_held : (t : Table) → IsTable t → (h : ℕ) → IsValid t h → (tree : Tree) → tree_of t h ≡ tree → MakesNode t t tree h
makes_held t i h v tree e =
    let also : HoldsAlso t t tree = subst (λ x. HoldsAlso t t x) e (holds_already t (tree_of t h) (held-branches t i h v)) in
    let n = live-need t t tree i also in
    record {
      valid = v;
      made = e;
      kept = record { room = refl; trees = λ k u. (u, refl) };
      held = also;
      live = n;
      small = omega (arith, n, (shared t i).bound);
      shared = shared t i;
    }

pub makes_same : (t : Table) → IsTable t → (level low high : ℕ) → IsValid t low → low ≡ high → MakesNode t t (join level (tree_of t low) (tree_of t high)) low
makes_same t i level low high v e =
    subst (λ k. MakesNode t t (join level (tree_of t low) (tree_of t k)) low) e (makes_held t i low v (join level (tree_of t low) (tree_of t low)) (sym (join-same level (tree_of t low))))

module _ (t : Table) (i : IsTable t) (slot : Node) (low : IsValid t slot.low) (high : IsValid t slot.high) (apart : slot.low ≢ slot.high) where
  pub joined : join slot.level (tree_of t slot.low) (tree_of t slot.high) ≡ Branch slot.level (tree_of t slot.low) (tree_of t slot.high)
  joined = join-apart slot.level (tree_of t slot.low) (tree_of t slot.high) (λ e. apart (tree_at-one_number (node_at t) i.well slot.low slot.high low high e))

  pub makes_found : (h : ℕ) → node_at t h ≡ Some slot → MakesNode t t (join slot.level (tree_of t slot.low) (tree_of t slot.high)) h
  makes_found h e = makes_held t i h (valid_from_found t i h slot e) (join slot.level (tree_of t slot.low) (tree_of t slot.high)) (tree_at-node (node_at t) i.well h slot e ∙ sym joined)

  -- where no number has this node, the tree isn't held
  lacking : ((h : ℕ) → node_at t h ≡ Some slot → ⊥) → is_member tree_eq (held t) (Branch slot.level (tree_of t slot.low) (tree_of t slot.high)) ≡ false
  lacking absent =
      let tree : Tree = Branch slot.level (tree_of t slot.low) (tree_of t slot.high) in
      elim (is_member tree_eq (held t) tree) as (λ b. is_member tree_eq (held t) tree ≡ b → b ≡ false) [
        | true ↦ λ m.
            let r = only_tree t tree m in
            let e : Branch r.1.level (tree_of t r.1.low) (tree_of t r.1.high) ≡ tree = sym (tree_at-node (node_at t) i.well r.0 r.1 r.2) ∙ r.3 in
            let level : r.1.level ≡ slot.level = cc in
            let lows : tree_of t r.1.low ≡ tree_of t slot.low = cc in
            let highs : tree_of t r.1.high ≡ tree_of t slot.high = cc in
            let a = tree_at-one_number (node_at t) i.well r.1.low slot.low (i.well.low r.0 r.1 r.2).0 low lows in
            let b = tree_at-one_number (node_at t) i.well r.1.high slot.high (i.well.high r.0 r.1 r.2).0 high highs in
            absurd (absent r.0 (r.2 ∙ ap (λ z. Some z) (ap (λ (l : ℕ). record { level = l; low = r.1.low; high = r.1.high }) level ∙ ap (λ (l : ℕ). record { level = slot.level; low = l; high = r.1.high }) a ∙ ap (λ (l : ℕ). record { level = slot.level; low = slot.low; high = l }) b)))
        | false ↦ λ m. refl
      ] refl

  module _ (absent : (h : ℕ) → node_at t h ≡ Some slot → ⊥) where
    one_needed : live_of t + 1 ≡ need t (join slot.level (tree_of t slot.low) (tree_of t slot.high))
    one_needed = need-one t i slot.level slot.low slot.high low high (lacking absent) ∙ ap (need t) (sym joined)

    -- where each number has a node and no more fit, the tree is too much
    pub is_full : length t.nodes ≡ t.room + 2 → ((h : ℕ) → 2 ≤ h → h < length t.nodes → node_at t h ≡ None → ⊥) → t.room < need t (join slot.level (tree_of t slot.low) (tree_of t slot.high))
    is_full long taken = omega (arith, one_needed, all_taken (node_at t) (length t.nodes) taken, long)

    pub makes_put : (u : Table) → u.room ≡ t.room → (number : ℕ) → node_at t number ≡ None → 2 ≤ number → 2 ≤ length u.nodes → length u.nodes ≤ t.room + 2 → ((h : ℕ) → node_at u h ≡ cond (h == number) (Some slot) (node_at t h))
        → slot.level < top (tree_of t slot.low) → slot.level < top (tree_of t slot.high) → slot.level < 65536
        → IsTable u × MakesNode t u (join slot.level (tree_of t slot.low) (tree_of t slot.high)) number
    makes_put u same_room number free two long fits put below_low below_high level =
        let tree : Tree = join slot.level (tree_of t slot.low) (tree_of t slot.high) in
        let is : IsTable u = put_is_table t u i same_room number slot free two long fits put low below_low high below_high apart level absent in
        let also : HoldsAlso t u tree = subst (λ x. HoldsAlso t u x) (sym joined) (put_also t u i same_room number slot free two long fits put low below_low high below_high apart level absent) in
        let e : tree_of u number ≡ tree = put_tree t u i same_room number slot free two long fits put low below_low high below_high apart level absent ∙ sym joined in
        let kept : KeepsTrees t u = put_keeps t u i same_room number slot free two long fits put low below_low high below_high apart level absent in
        let n = live-need t u tree is also in (
          is,
          record {
            valid = valid_from_found u is number slot (put number ∙ ap (λ b. cond b (Some slot) (node_at t number)) ((Decides-eqb number number).1 refl));
            made = e;
            kept = kept;
            held = also;
            live = n;
            small = omega (arith, n, (shared u is).bound, same_room);
            shared = shared u is;
          },
        )
