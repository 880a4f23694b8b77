-- The stages of a short try, one after another.
use Rattle.std.proofs.Common.{◌≡◌, ℕ, ◌<◌, ap, sym, ◌∙◌, subst}
use Rattle.std.specs.Prelude.{Option, Some, None}
use Rattle.node_tree.specs.Tree.{Tree, join, top}
use Rattle.node_table.specs.Table.{Table, tree_of, IsValid, KeepsTrees, IsShared}
use Rattle.bdd_ops.specs.declared.op.Op.{Op}
use Rattle.bdd_ops.specs.declared.parts.Split.{Split}
use Rattle.bdd_ops.specs.Apply.{apply_tree}
use Rattle.bdd_ops.specs.Numbers.{truth_of}
use Rattle.bdd_ops.specs.Split.{Splits}
use Rattle.bdd_ops.specs.Applied.{op_tree}
use Rattle.bdd_ops.specs.Tried.{Tries}
use Rattle.bdd_ops.proofs.Splitting.{Parts, parts}
use Rattle.bdd_ops.proofs.Growing.{keeps_same}

-- every valid handle keeps its tree, from one table to the next
pub keeps_on : (t w x : Table) → KeepsTrees t w → KeepsTrees w x → KeepsTrees t x
keeps_on t w x a b = record { room = b.room ∙ a.room; trees = λ h v. let one = a.trees h v in let two = b.trees h one.0 in (two.0, two.1 ∙ one.1) }

-- the answer is there, or nothing is tried
pub tried_there : (tree : Tree) (t : Table) (h : ℕ) → IsShared t → IsValid t h → tree_of t h ≡ tree → Tries tree t t (Some h)
tried_there tree t h shared valid is = record { keeps = keeps_same t; shared = shared; answer = (valid, is) }

pub tried_none : (tree : Tree) (t : Table) → IsShared t → Tries tree t t None
tried_none tree t shared = record { keeps = keeps_same t; shared = shared; answer = tt }

-- given up behind some other try
pub given_up : (tree some : Tree) (t w x : Table) (r : Option ℕ) → KeepsTrees t w → Tries some w x r → Tries tree t x None
given_up tree some t w x r keeps tried = record { keeps = keeps_on t w x keeps tried.keeps; shared = tried.shared; answer = tt }

module _ (op : Op) (u v : ℕ) (t : Table) (shared : IsShared t) (left : IsValid t u) (right : IsValid t v) (k : Split) (splits : Splits t u v k) where
  ps : Parts (truth_of op) t u v k
  ps = parts (truth_of op) t u v k shared left right splits

  module _ (w : Table) (low : ℕ) (a : Tries (op_tree op t k.left_low k.right_low) t w (Some low)) where
    pub high_valid : IsValid w k.left_high × IsValid w k.right_high
    high_valid = ((a.keeps.trees k.left_high splits.left_high.0).0, (a.keeps.trees k.right_high splits.right_high.0).0)

    high_same : op_tree op w k.left_high k.right_high ≡ op_tree op t k.left_high k.right_high
    high_same =
        ap (λ x. apply_tree (truth_of op) x (tree_of w k.right_high)) (a.keeps.trees k.left_high splits.left_high.0).1
        ∙ ap (apply_tree (truth_of op) (tree_of t k.left_high)) (a.keeps.trees k.right_high splits.right_high.0).1

    module _ (x : Table) (high : ℕ) (b : Tries (op_tree op w k.left_high k.right_high) w x (Some high)) where
      low_is : tree_of x low ≡ op_tree op t k.left_low k.right_low
      low_is = (b.keeps.trees low a.answer.0).1 ∙ a.answer.1

      high_is : tree_of x high ≡ op_tree op t k.left_high k.right_high
      high_is = b.answer.1 ∙ high_same

      pub parts_make : IsValid x low × IsValid x high × (k.level < top (tree_of x low)) × (k.level < top (tree_of x high))
      parts_make = (
        (b.keeps.trees low a.answer.0).0,
        b.answer.0,
        subst (λ y. k.level < top y) (sym low_is) ps.below_low,
        subst (λ y. k.level < top y) (sym high_is) ps.below_high,
      )

      joined : join k.level (tree_of x low) (tree_of x high) ≡ op_tree op t u v
      joined = ap (λ y. join k.level y (tree_of x high)) low_is ∙ ap (join k.level (op_tree op t k.left_low k.right_low)) high_is ∙ sym ps.whole

      both_keep : KeepsTrees t x
      both_keep = keeps_on t w x a.keeps b.keeps

      -- the node of both parts was made, or had no room
      pub tried_made : (y : Table) (h : ℕ) → KeepsTrees x y → IsShared y → IsValid y h → tree_of y h ≡ join k.level (tree_of x low) (tree_of x high) → Tries (op_tree op t u v) t y (Some h)
      tried_made y h keeps kept valid is = record { keeps = keeps_on t x y both_keep keeps; shared = kept; answer = (valid, is ∙ joined) }

      pub tried_full : (y : Table) → KeepsTrees x y → IsShared y → Tries (op_tree op t u v) t y None
      tried_full y keeps kept = record { keeps = keeps_on t x y both_keep keeps; shared = kept; answer = tt }
