-- Answers at once: an operand is a leaf, or both are one.
use Rattle.std.proofs.Common.{◌≡◌, ◌⊎◌, ℕ, List, Bool, true, false, cond, sym, ap, ◌∙◌, inl, inr}
use Rattle.std.specs.Prelude.{Option, Some, None, MatchOption}
use Rattle.node_tree.specs.Tree.{value}
use Rattle.node_table.specs.Table.{Table, tree_of, IsValid, IsShared}
use Rattle.bdd_ops.specs.Apply.{leaf_of, apply_tree}
use Rattle.bdd_ops.specs.Parts.{IsBranch}
use Rattle.bdd_ops.proofs.Values.{leaf-value, apply-from_values}

module _ (f : Bool → Bool → Bool) (t : Table) (u v : ℕ) (s : IsShared t) (vu : IsValid t u) (vv : IsValid t v) where
  abbrev Answers : Option ℕ → Type 0
  Answers r = MatchOption r (IsBranch (tree_of t u) ⊎ IsBranch (tree_of t v)) (λ h. IsValid t h × (tree_of t h ≡ apply_tree f (tree_of t u) (tree_of t v)))

  abbrev Chosen : ℕ → Bool → Bool → Option ℕ → Type 0
  Chosen h x y r = MatchOption r (IsBranch (tree_of t h)) (λ k. IsValid t k × ((bits : List Bool) → value (tree_of t k) bits ≡ cond (value (tree_of t h) bits) y x))

  answered : (h : ℕ) (x y : Bool) (r : Option ℕ) → ((bits : List Bool) → cond (value (tree_of t h) bits) y x ≡ f (value (tree_of t u) bits) (value (tree_of t v) bits)) → (IsBranch (tree_of t
      h) → IsBranch (tree_of t u) ⊎ IsBranch (tree_of t v)) → Chosen h x y r → Answers r
  answered h x y None e n c = n c
  answered h x y (Some k) e n c = (
    c.0,
    apply-from_values f (tree_of t u) (tree_of t v) (tree_of t k) (s.ordered u vu) (s.reduced u vu) (s.ordered v vv) (s.reduced v vv) (s.ordered k c.0) (s.reduced k c.0) (λ bits. c.1
        bits ∙ e bits),
  )

  by_right : (a b x y : Bool) → x ≡ f a false → y ≡ f a true → cond b y x ≡ f a b
  by_right a true x y p q = q
  by_right a false x y p q = p

  by_left : (a b x y : Bool) → x ≡ f false b → y ≡ f true b → cond a y x ≡ f a b
  by_left true b x y p q = q
  by_left false b x y p q = p

  by_both : (a x y : Bool) → x ≡ f false false → y ≡ f true true → cond a y x ≡ f a a
  by_both true x y p q = q
  by_both false x y p q = p

  pub left_leaf : (a x y : Bool) (r : Option ℕ) → tree_of t u ≡ leaf_of a → x ≡ f a false → y ≡ f a true → Chosen v x y r → Answers r
  left_leaf a x y r e p q c =
      answered v x y r (λ bits. (let w : value (tree_of t u) bits ≡ a = ap (λ z. value z bits) e ∙ leaf-value a bits in
      by_right a (value (tree_of t v) bits) x y p q ∙ ap (λ z. f z (value (tree_of t v) bits)) (sym w))) (λ n. inr n) c

  pub right_leaf : (b x y : Bool) (r : Option ℕ) → tree_of t v ≡ leaf_of b → x ≡ f false b → y ≡ f true b → Chosen u x y r → Answers r
  right_leaf b x y r e p q c =
      answered u x y r (λ bits. (let w : value (tree_of t v) bits ≡ b = ap (λ z. value z bits) e ∙ leaf-value b bits in
      by_left (value (tree_of t u) bits) b x y p q ∙ ap (λ z. f (value (tree_of t u) bits) z) (sym w))) (λ n. inl n) c

  pub both_one : (x y : Bool) (r : Option ℕ) → u ≡ v → x ≡ f false false → y ≡ f true true → Chosen u x y r → Answers r
  both_one x y r e p q c =
      answered u x y r (λ bits. by_both (value (tree_of t u) bits) x y p q ∙ ap (λ z. f (value (tree_of t u) bits) (value (tree_of t z) bits)) e) (λ n. inl n) c
