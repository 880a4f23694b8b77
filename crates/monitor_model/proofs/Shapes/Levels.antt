-- The levels of what operations make.
use Rattle.std.proofs.Common.{◌≡◌, ℕ, zero, suc, ◌+◌, ◌-◌, ◌<◌, ◌≤◌, ◌⊎◌, ⊎_elim, refl, subst, arith, Bool, true, false, Option, Some, None}
use Rattle.std.specs.Prelude.{if◌then◌else◌, nat_eq, nat_lt, nat_le, ◌^◌}
use Rattle.std.proofs.lemmas.Bool.Decides.{nat_tests}
use Rattle.node_tree.specs.Tree.{Tree, Zero, One, Branch, IsOrderedFrom, tree_eq, join}
use Rattle.node_tree.specs.Levels.{AllLevels, IsInBlock}
use Rattle.bdd_ops.specs.Apply.{leaf_of, map_leaves, merge, apply_tree}
use Rattle.bdd_ops.specs.Numbers.{truth_of}
use Rattle.quantify.specs.Quantified.{connective, quantified}
use Rattle.timed_bits.specs.Changes.{chain, chain_of, at_entries}

ordered_more : (n m : ℕ) (t : Tree) → n ≤ m → IsOrderedFrom m t → IsOrderedFrom n t
ordered_more n m Zero l o = tt
ordered_more n m One l o = tt
ordered_more n m (Branch level a b) l o = ((let x = o.0 in omega arith), o.1, o.2)

module _ (P : ℕ → Type 0) where
  join_by : (b : Bool) (l : ℕ) (u v : Tree) → P l → AllLevels P u → AllLevels P v → AllLevels P (if b then u else Branch l u v)
  join_by true l u v p h k = h
  join_by false l u v p h k = (p, h, k)

  pub join_levels : (l : ℕ) (u v : Tree) → P l → AllLevels P u → AllLevels P v → AllLevels P (join l u v)
  join_levels l u v p h k = join_by (tree_eq u v) l u v p h k

  -- a leaf has none
  pub leaf_levels : (b : Bool) → AllLevels P (leaf_of b)
  leaf_levels true = tt
  leaf_levels false = tt

  pub map_levels : (f : Bool → Bool) (t : Tree) → AllLevels P t → AllLevels P (map_leaves f t)
  map_levels f Zero h = leaf_levels (f false)
  map_levels f One h = leaf_levels (f true)
  map_levels f (Branch l a b) h = join_levels l _ _ h.0 (map_levels f a h.1) (map_levels f b h.2)

  by_order : (b c : Bool) (x y z : Tree) → AllLevels P x → AllLevels P y → AllLevels P z → AllLevels P (if b then x else (if c then y else z))
  by_order true c x y z h k m = h
  by_order false true x y z h k m = k
  by_order false false x y z h k m = m

  abbrev Keeps : (Tree → Tree) → Type 0
  Keeps f = (t : Tree) → AllLevels P t → AllLevels P (f t)

  merge_levels : (l : ℕ) (f g : Tree → Tree) → P l → Keeps f → Keeps g → (v : Tree) → AllLevels P v → AllLevels P (merge l f g v)
  merge_levels l f g p kf kg Zero h = join_levels l _ _ p (kf Zero h) (kg Zero h)
  merge_levels l f g p kf kg One h = join_levels l _ _ p (kf One h) (kg One h)
  merge_levels l f g p kf kg (Branch m c d) h =
      by_order (nat_lt l m) (nat_eq l m) _ _ _ (join_levels l _ _ p (kf (Branch m c d) h) (kg (Branch m c d) h)) (join_levels l _ _ p (kf c h.1) (kg d h.2))
      (join_levels m _ _ h.0 (merge_levels l f g p kf kg c h.1) (merge_levels l f g p kf kg d h.2))

  -- an operation has the levels of its operands
  pub apply_levels : (f : Bool → Bool → Bool) (u v : Tree) → AllLevels P u → AllLevels P v → AllLevels P (apply_tree f u v)
  apply_levels f Zero v h k = map_levels (f false) v k
  apply_levels f One v h k = map_levels (f true) v k
  apply_levels f (Branch l a b) v h k = merge_levels l _ _ h.0 (λ t m. apply_levels f a t h.1 m) (λ t m. apply_levels f b t h.2 m) v k

  weaker_here : (Q : ℕ → Type 0) → ((l : ℕ) → P l → Q l) → (t : Tree) → AllLevels P t → AllLevels Q t
  weaker_here Q w Zero h = tt
  weaker_here Q w One h = tt
  weaker_here Q w (Branch l a b) h = (w l h.0, weaker_here Q w a h.1, weaker_here Q w b h.2)

  entry_by : (b : Bool) (l : ℕ) (u v w : Tree) → (b ≡ true → P l) → (b ≡ true → AllLevels P u) → (b ≡ true → AllLevels P v) → AllLevels P w → AllLevels P (if b then join l u v else w)
  entry_by true l u v w p h k m = join_levels l u v (p refl) (h refl) (k refl)
  entry_by false l u v w p h k m = m

  -- what is changed at the entries has the levels before the block, and those of the changes
  pub entry_levels : (first : ℕ) (g : Tree → Tree) → ((t : Tree) → AllLevels P (g t)) → (t : Tree) → AllLevels (λ l. (l < first) → P l) t → AllLevels P (at_entries first g t)
  entry_levels first g made Zero h = made Zero
  entry_levels first g made One h = made One
  entry_levels first g made (Branch l a b) h =
      entry_by (nat_lt l first) l _ _ _ (λ e. h.0 (grind (arith, nat_tests))) (λ e. entry_levels first g made a h.1) (λ e. entry_levels first g made b h.2) (made (Branch l a b))

  chain_by : (b : Bool) (l : ℕ) (u v : Tree) → P l → AllLevels P u → AllLevels P v → AllLevels P (if b then Branch l Zero u else Branch l v Zero)
  chain_by true l u v p h k = (p, tt, h)
  chain_by false l u v p h k = (p, k, tt)

  pub chain_levels : (first width n : ℕ) → ((l : ℕ) → IsInBlock first width l → P l) → AllLevels P (chain first width n)
  chain_levels first zero n p = tt
  chain_levels first (suc width) n p =
      let q : (l : ℕ) → IsInBlock (first + 1) width l → P l = λ l (a, b). p l (omega arith, omega arith) in
      chain_by (nat_le (2 ^ width) n) first _ _ (p first (omega arith, omega arith)) (chain_levels (first + 1) width (n - 2 ^ width) q) (chain_levels (first + 1) width n q)

  pub chain_of_levels : (first width : ℕ) (o : Option ℕ) → ((l : ℕ) → IsInBlock first width l → P l) → AllLevels P (chain_of first width o)
  chain_of_levels first width None p = tt
  chain_of_levels first width (Some n) p = chain_levels first width n p

  -- below a branch of an ordered tree no level is that of the branch, so each is one that P allows
  below_by : (level : ℕ) (t : Tree) → IsOrderedFrom (level + 1) t → AllLevels (λ l. (l ≡ level) ⊎ P l) t → AllLevels P t
  below_by level Zero o h = tt
  below_by level One o h = tt
  below_by level (Branch l a b) o h = (
    ⊎_elim (λ e. absurd (let x = o.0 in omega arith)) (λ p. p) h.0,
    below_by level a (ordered_more (level + 1) (l + 1) a (let x = o.0 in omega arith) o.1) h.1,
    below_by level b (ordered_more (level + 1) (l + 1) b (let x = o.0 in omega arith) o.2) h.2,
  )

  quantified_by : (b : Bool) (u v : Tree) → (b ≡ true → AllLevels P u) → (b ≡ false → AllLevels P v) → AllLevels P (if b then u else v)
  quantified_by true u v h k = h refl
  quantified_by false u v h k = k refl

  -- a level that is quantified over is gone
  pub quantified_levels : (all : Bool) (level n : ℕ) (t : Tree) → IsOrderedFrom n t → AllLevels (λ l. (l ≡ level) ⊎ P l) t → AllLevels P (quantified all level t)
  quantified_levels all level n Zero o h = tt
  quantified_levels all level n One o h = tt
  quantified_levels all level n (Branch l a b) o h =
      quantified_by (nat_eq l level) _ _
      (λ e. let same : l ≡ level = grind (arith, nat_tests) in
      apply_levels (truth_of (connective all)) a b
      (below_by level a (subst (λ (k : ℕ). IsOrderedFrom (k + 1) a) same o.1) h.1)
      (below_by level b (subst (λ (k : ℕ). IsOrderedFrom (k + 1) b) same o.2) h.2))
      (λ e. let other : l ≡ level → ⊥ = grind (arith, nat_tests) in
      join_levels l _ _ (⊎_elim (λ k. absurd (other k)) (λ p. p) h.0) (quantified_levels all level (l + 1) a o.1 h.1) (quantified_levels all level (l + 1) b o.2 h.2))

pub weaker_levels : (P Q : ℕ → Type 0) → ((l : ℕ) → P l → Q l) → (t : Tree) → AllLevels P t → AllLevels Q t
weaker_levels P Q w t h = weaker_here P Q w t h
