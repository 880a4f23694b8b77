-- Trees whose levels P allows and whose value is the same at each two bits of R: what operations
-- make of them is such a tree.
use Rattle.std.proofs.Common.{◌≡◌, ◌≢◌, ℕ, zero, suc, ◌+◌, ◌-◌, ◌≤◌, ◌⊎◌, inl, inr, ⊎_elim, refl, sym, ap, ◌∙◌, subst, arith, List, [], ◌∷◌, Bool, true, false, not}
use Rattle.std.specs.List.{AllByRecursion}
use Rattle.std.proofs.lemmas.Bool.{cases_eq}
use Rattle.node_tree.specs.Tree.{Tree, Zero, One, IsOrdered, IsReduced, value}
use Rattle.node_tree.specs.Restrict.{with_bit}
use Rattle.node_tree.specs.Levels.{AllLevels, IsInBlock}
use Rattle.bdd_ops.specs.declared.op.Op.{Op}
use Rattle.bdd_ops.specs.declared.op.Op.TheVariants.{Or}
use Rattle.bdd_ops.specs.Numbers.{truth_of}
use Rattle.bdd_ops.specs.Apply.{map_leaves}
use Rattle.bdd_ops.proofs.Values.{map_leaves-value, map_leaves-ordered, map_leaves-reduced, apply-value, apply-ordered, apply-reduced}
use Rattle.quantify.specs.Quantified.{connective, after_rows}
use Rattle.quantify.proofs.Quantifying.{quantified-value}
use Rattle.operation_rows.specs.Kinds.{applied, union_of}
use Rattle.monitor_model.proofs.Drawing.Trees.{after_rows_diagram}
use Rattle.monitor_model.proofs.Shapes.Levels.{map_levels, apply_levels, quantified_levels, weaker_levels}

-- an ordered reduced tree of such levels and values
pub record Keeps (P : ℕ → Type 0) (R : List Bool → List Bool → Type 0) (t : Tree) : Type 0 where
  pub ordered : IsOrdered t
  pub reduced : IsReduced t
  pub levels : AllLevels P t
  pub same : (a b : List Bool) → R a b → value t a ≡ value t b

-- more levels may be allowed
pub keeps_wider : (P Q : ℕ → Type 0) (R : List Bool → List Bool → Type 0) (t : Tree) →
    ((l : ℕ) → P l → Q l) → Keeps P R t → Keeps Q R t
keeps_wider P Q R t w k = record {
  ordered = k.ordered;
  reduced = k.reduced;
  levels = weaker_levels P Q w t k.levels;
  same = k.same;
}

module _ (P : ℕ → Type 0) (R : List Bool → List Bool → Type 0) where
  -- the leaves are such trees
  pub keeps_zero : Keeps P R Zero
  keeps_zero = record { ordered = tt; reduced = tt; levels = tt; same = λ a b r. refl }

  pub keeps_one : Keeps P R One
  keeps_one = record { ordered = tt; reduced = tt; levels = tt; same = λ a b r. refl }

  -- so is the opposite of one
  pub keeps_not : (t : Tree) → Keeps P R t → Keeps P R (map_leaves not t)
  keeps_not t k = record {
    ordered = map_leaves-ordered not t 0 k.ordered;
    reduced = map_leaves-reduced not t k.reduced;
    levels = map_levels P not t k.levels;
    same = λ a b r.
        map_leaves-value not t a ∙ ap not (k.same a b r) ∙ sym (map_leaves-value not t b);
  }

  -- and an operation on two
  pub keeps_applied : (op : Op) (u v : Tree) → Keeps P R u → Keeps P R v →
      Keeps P R (applied op u v)
  keeps_applied op u v k m = record {
    ordered = apply-ordered (truth_of op) u v 0 k.ordered m.ordered;
    reduced = apply-reduced (truth_of op) u v k.reduced m.reduced;
    levels = apply_levels P (truth_of op) u v k.levels m.levels;
    same = λ a b r.
        apply-value (truth_of op) u v a ∙ ap (λ x. truth_of op x (value v a)) (k.same a b r) ∙
        ap (truth_of op (value u b)) (m.same a b r) ∙ sym (apply-value (truth_of op) u v b);
  }

  -- the union of such trees
  pub keeps_union : (u : Tree) (ds : List Tree) → Keeps P R u → AllByRecursion (Keeps P R) ds →
      Keeps P R (union_of u ds)
  keeps_union u [] k h = k
  keeps_union u (d ∷ ds) k h =
      keeps_union (applied Or u d) ds (keeps_applied Or u d k h.0) h.1

-- ---- the rows of a quantifier

module _ (all : Bool) (first bits : ℕ) (t : Tree) (o : IsOrdered t) (d : IsReduced t) where
  rows_ordered : (r : ℕ) → IsOrdered (after_rows all first bits r t)
  rows_ordered r = (after_rows_diagram all first bits r t (o, d)).0

  module _ (P : ℕ → Type 0) (h : AllLevels (λ l. IsInBlock first bits l ⊎ P l) t) where
    last_or_before : (r l : ℕ) → suc r ≤ bits → IsInBlock first (bits - r) l ⊎ P l →
        (l ≡ first + bits - suc r) ⊎ (IsInBlock first (bits - suc r) l ⊎ P l)
    last_or_before r l m (inr p) = inr (inr p)
    last_or_before r l m (inl (p, q)) =
        ⊎_elim
        (λ e. inl e)
        (λ n. inr (inl (p, let x : l ≢ first + bits - suc r = n in omega arith)))
        (cases_eq l (first + bits - suc r))

    -- after so many rows as many levels of the block are gone
    rows_levels : (r : ℕ) → r ≤ bits →
        AllLevels (λ l. IsInBlock first (bits - r) l ⊎ P l) (after_rows all first bits r t)
    rows_levels zero m =
        let z : bits ≡ bits - 0 = omega arith in
        subst (λ (n : ℕ). AllLevels (λ l. IsInBlock first n l ⊎ P l) t) z h
    rows_levels (suc r) m =
        quantified_levels (λ l. IsInBlock first (bits - suc r) l ⊎ P l) all (first + bits - suc r) 0
        (after_rows all first bits r t) (rows_ordered r)
        (weaker_levels (λ l. IsInBlock first (bits - r) l ⊎ P l) _
        (λ l p. last_or_before r l m p) (after_rows all first bits r t)
        (rows_levels r (omega arith)))

    none_left : (l : ℕ) → IsInBlock first (bits - bits) l ⊎ P l → P l
    none_left l (inl (p, q)) = absurd (omega arith)
    none_left l (inr p) = p

    -- over the whole block, the levels of the block are gone
    pub block_levels : AllLevels P (after_rows all first bits bits t)
    block_levels =
        weaker_levels (λ l. IsInBlock first (bits - bits) l ⊎ P l) P none_left
        (after_rows all first bits bits t) (rows_levels bits (omega arith))

  module _ (R : List Bool → List Bool → Type 0)
      (moves : (a b : List Bool) (l : ℕ) (v : Bool) → IsInBlock first bits l → R a b →
      R (with_bit a l v) (with_bit b l v))
      (h : (a b : List Bool) → R a b → value t a ≡ value t b) where
    rows_same : (r : ℕ) → r ≤ bits → (a b : List Bool) → R a b →
        value (after_rows all first bits r t) a ≡ value (after_rows all first bits r t) b
    rows_same zero m a b p = h a b p
    rows_same (suc r) m a b p =
        let l = first + bits - suc r in
        let u = after_rows all first bits r t in
        let inside : IsInBlock first bits l = (omega arith, omega arith) in
        let low : value u (with_bit a l false) ≡ value u (with_bit b l false) =
        rows_same r (omega arith) _ _ (moves a b l false inside p) in
        let high : value u (with_bit a l true) ≡ value u (with_bit b l true) =
        rows_same r (omega arith) _ _ (moves a b l true inside p) in
        quantified-value all l u 0 (rows_ordered r) a ∙
        ap (λ x. truth_of (connective all) x (value u (with_bit a l true))) low ∙
        ap (truth_of (connective all) (value u (with_bit b l false))) high ∙
        sym (quantified-value all l u 0 (rows_ordered r) b)

    -- where R allows the bits of the block to be set, the values stay the same
    pub block_same : (a b : List Bool) → R a b →
        value (after_rows all first bits bits t) a ≡ value (after_rows all first bits bits t) b
    block_same = rows_same bits (omega arith)

  -- what is left is ordered and reduced
  pub block_ordered : IsOrdered (after_rows all first bits bits t)
  block_ordered = (after_rows_diagram all first bits bits t (o, d)).0

  pub block_reduced : IsReduced (after_rows all first bits bits t)
  block_reduced = (after_rows_diagram all first bits bits t (o, d)).1
