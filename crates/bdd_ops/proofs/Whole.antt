-- Whole operations on two trees.
use Rattle.std.proofs.Common.{◌≡◌, ℕ, ◌+◌, ◌*◌, ◌≤◌, List, [], ◌∷◌, refl, sym, ap, ◌∙◌, arith, subst}
use Rattle.std.specs.Prelude.{Bool, Some, Result, Ok, Err}
use Rattle.node_tree.specs.Tree.{value}
use Rattle.node_table.specs.declared.table.Full.{Full}
use Rattle.node_table.specs.Table.{Table, tree_of, IsValid, KeepsTrees, IsShared}
use Rattle.node_table.specs.Collects.{Collects}
use Rattle.op_cache.specs.Memo.{Memo, result_at, IsMemo}
use Rattle.bdd_ops.specs.declared.op.Op.{Op}
use Rattle.bdd_ops.specs.declared.store.NodesFull.{NodesFull}
use Rattle.bdd_ops.specs.Apply.{apply_tree}
use Rattle.bdd_ops.specs.Numbers.{truth_of, place}
use Rattle.bdd_ops.specs.Applied.{Makes, op_tree, HoldsResults, Applies}
use Rattle.bdd_ops.specs.Shelf.{Shelf, handle_pairs, HasRoom}
use Rattle.bdd_ops.specs.Operates.{AllStay, Operates}
use Rattle.bdd_ops.specs.Tried.{Tries}
use Rattle.bdd_ops.proofs.Values.{apply-value}
use Rattle.bdd_ops.proofs.Bounds.{try_bounded}
use Rattle.bdd_ops.proofs.Growing.{keeps_same}
use Rattle.bdd_ops.proofs.Tries.{stay_same, stay_valid, there_ends, tried_before, first_ok, stay_collected, again_ok, again_full}

-- a try in a store that has room for all pairs of handles
pub inside_bounded : (op : Op) (u v : ℕ) (x : Shelf) (t w : Table) (m n : Memo ℕ) (s k : ℕ) (r : Result ℕ Full) → record { table = t; memo = m } ≡ x → IsShared t → IsValid t u → IsValid t v
    → IsMemo n → Applies op u v t w m n s k r → HasRoom x → k ≤ s + (2 * handle_pairs x.table + 4 * x.table.room)
inside_bounded op u v x t w m n s k r e sh vu vv memo a =
    subst (λ (y : Shelf). HasRoom y → k ≤ s + (2 * handle_pairs y.table + 4 * y.table.room)) e (λ room. try_bounded op u v t w m n s k r sh vu vv memo a (omega (arith, room)))

-- the values of an operation's tree
pub op_values : (op : Op) (u v : ℕ) (t w : Table) (h : ℕ) → tree_of w h ≡ op_tree op t u v → (bits : List Bool) → value (tree_of w h) bits ≡ truth_of op (value (tree_of t u) bits) (value
    (tree_of t v) bits)
op_values op u v t w h e bits = ap (λ x. value x bits) e ∙ apply-value (truth_of op) (tree_of t u) (tree_of t v) bits

same_op_tree : (op : Op) (u v : ℕ) (t w : Table) → AllStay t w (u ∷ (v ∷ [])) → op_tree op w u v ≡ op_tree op t u v
same_op_tree op u v t w s = ap (λ x. apply_tree (truth_of op) x (tree_of w v)) (s 0 (omega arith)).1 ∙ ap (apply_tree (truth_of op) (tree_of t u)) (s 1 (omega arith)).1

module _ (op : Op) (u v : ℕ) (roots : List ℕ) (t p : Table) (pr : p.room ≡ t.room) (so : AllStay t p (u ∷ (v ∷ []))) (sr : AllStay t p roots) where
  abbrev both : List ℕ
  both = u ∷ (v ∷ [])

  ready_tree : op_tree op p u v ≡ op_tree op t u v
  ready_tree = same_op_tree op u v t p so

  -- what was begun over a store that was made ready
  began : (new : Table) (r : Result ℕ NodesFull) → Operates (op_tree op p u v) both roots p new r → Operates (op_tree op t u v) both roots t new r
  began new r o = tried_before (op_tree op t u v) both roots t p new r pr so sr (subst (λ x. Operates x both roots p new r) ready_tree o)

  -- the memo has the tree
  pub known_made : (m : Memo ℕ) (known : ℕ) → IsShared p → HoldsResults p m.pairs → Some known ≡ result_at m.pairs (place op u v) → Operates (op_tree op t u v) (u ∷ (v ∷ [])) roots t p (Ok known)
  known_made m known shared sound is =
      let known_is = sound.each op u v known (sym is) in
      began p (Ok known)
      (there_ends (op_tree op p u v) both roots p p p refl (stay_same p both (stay_valid t p both so)) (stay_same p roots (stay_valid t p roots sr)) known (keeps_same p) shared known_is.2 known_is.3)

  -- the short try made the tree
  pub short_made : (new : Table) (made : ℕ) → Tries (op_tree op p u v) p new (Some made) → Operates (op_tree op t u v) (u ∷ (v ∷ [])) roots t new (Ok made)
  short_made new made m =
      began new (Ok made)
      (there_ends (op_tree op p u v) both roots p p new refl (stay_same p both (stay_valid t p both so)) (stay_same p roots (stay_valid t p roots sr)) made m.keeps m.shared m.answer.0 m.answer.1)

  -- the first try made the tree
  pub first_made : (new : Table) (made : ℕ) → Makes (op_tree op p u v) p new (Ok made) → Operates (op_tree op t u v) (u ∷ (v ∷ [])) roots t new (Ok made)
  first_made new made m = began new (Ok made) (first_ok (op_tree op p u v) both roots p new made (stay_valid t p both so) (stay_valid t p roots sr) m)

  module _ (mid w new : Table) (k : KeepsTrees p mid) (c : Collects mid w roots (u ∷ (v ∷ []))) where
    same : op_tree op w u v ≡ op_tree op p u v
    same = same_op_tree op u v p w (stay_collected (op_tree op p u v) both roots p mid w new k (stay_valid t p both so) (stay_valid t p roots sr) c).0

    -- the second try made it
    pub again_made : (made : ℕ) → Makes (op_tree op w u v) w new (Ok made) → Operates (op_tree op t u v) (u ∷ (v ∷ [])) roots t new (Ok made)
    again_made made m = began new (Ok made) (again_ok (op_tree op p u v) both roots p mid w new k (stay_valid t p both so) (stay_valid t p roots sr) c made (subst (λ x. Makes x w new (Ok
        made)) same m))

    -- nor had the second try room
    pub again_none : (x : NodesFull) (z : Full) → Makes (op_tree op w u v) w new (Err z) → Operates (op_tree op t u v) (u ∷ (v ∷ [])) roots t new (Err x)
    again_none x z m = began new (Err x) (again_full (op_tree op p u v) both roots p mid w new k (stay_valid t p both so) (stay_valid t p roots sr) c x z (subst (λ y. Makes y w new (Err z)) same m))
