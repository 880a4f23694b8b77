-- The ages of the trees that the rows of the timed operators make.
use Rattle.std.proofs.Common.{◌≡◌, ℕ, ◌+◌, ◌^◌, ◌<◌, ◌≤◌, ◌⊎◌, ◌↔◌, inl, inr, refl, sym, ap, ◌∙◌, subst, arith, List, Bool, true, false, not, Option}
use Rattle.std.specs.Prelude.{IfSome}
use Rattle.std.proofs.lemmas.Bool.{cases_lt, cases_eq}
use Rattle.subformulas.proofs.Agree.{joined, turned}
use Rattle.node_tree.specs.Tree.{Tree, Zero, One, Branch, IsOrderedFrom, IsReduced, bit, value}
use Rattle.node_tree.specs.Levels.{LevelsBelow}
use Rattle.node_tree.specs.Restrict.{with_bit}
use Rattle.node_tree.proofs.OneTree.{bit-put_same, put_other, low_is, high_is, alone}
use Rattle.bdd_ops.specs.declared.op.Op.TheVariants.{And, Or, AndNot}
use Rattle.bdd_ops.specs.Apply.{map_leaves}
use Rattle.timed_bits.specs.Ages.{is_age, spelled, SameBefore, HasAges}
use Rattle.timed_bits.specs.Changes.{age_drop, age_cap, any_time, stamp, stamped, dropped, age_where, either_age, since_within, since_beyond}
use Rattle.timed_bits.specs.Entries.{SaysOfAge}
use Rattle.timed_bits.proofs.Ages.{age_drop-ages, age_cap-ages}
use Rattle.timed_bits.proofs.Others.{says_itself, and-ages, without-or_stamp, within-or_stamp, or_stamp_elsewhere}
use Rattle.operation_rows.specs.Kinds.{applied}
use Rattle.monitor_model.specs.Drawn.{Draws}
use Rattle.monitor_model.proofs.Drawing.Connectives.{alike}

-- ---- a tree that looks at bits before a level alone has no levels from there on

same_set : (first l : ℕ) (bits other : List Bool) (v : Bool) → SameBefore first bits other →
    SameBefore first (with_bit bits l v) (with_bit other l v)
same_set first l bits other v h k p = by_level (cases_eq l k)
  where
    by_level : (l ≡ k) ⊎ (l ≡ k → ⊥) → bit (with_bit bits l v) k ≡ bit (with_bit other l v) k
    by_level (inl e) =
        subst (λ (j : ℕ). bit (with_bit bits l v) j ≡ bit (with_bit other l v) j) e
        (bit-put_same bits l v ∙ sym (bit-put_same other l v))
    by_level (inr n) = put_other bits l k v n ∙ (h k p ∙ sym (put_other other l k v n))

abbrev LooksBefore : ℕ → Tree → Type 0
LooksBefore first t = (bits other : List Bool) → SameBefore first bits other → value t bits ≡ value t other

levels_from : (first n : ℕ) (t : Tree) → IsOrderedFrom n t → IsReduced t → LooksBefore first t →
    LevelsBelow first t
levels_from first n Zero o r h = tt
levels_from first n One o r h = tt
levels_from first n (Branch l a b) o r h =
    by_level (cases_lt l first)
    (levels_from first (l + 1) a o.1 r.1 (λ bits other s. low_is l a b bits o.1 ∙ (h _ _ (same_set first l bits other false s) ∙ sym (low_is l a b other o.1))))
    (levels_from first (l + 1) b o.2 r.2 (λ bits other s. high_is l a b bits o.2 ∙ (h _ _ (same_set first l bits other true s) ∙ sym (high_is l a b other o.2))))
  where
    by_level : (l < first) ⊎ (first ≤ l) → LevelsBelow first a → LevelsBelow first b →
        (l < first) × LevelsBelow first a × LevelsBelow first b
    by_level (inl p) x y = (p, x, y)
    by_level (inr p) x y =
        absurd (r.0 (alone a (l + 1) b o.1 r.1 o.2 r.2 (λ bits.
        low_is l a b bits o.1 ∙ (h (with_bit bits l false) (with_bit bits l true)
        (λ k q. put_other bits l k false (λ e. omega arith) ∙ sym (put_other bits l k true (λ e. omega arith)))
        ∙ sym (high_is l a b bits o.2)))))

-- a tree that draws what the bits before a block decide is a tree before the block
pub early_drawn : (first : ℕ) (P : List Bool → Type 0) (t : Tree) → Draws P t →
    ((bits other : List Bool) → SameBefore first bits other → P bits ↔ P other) →
    SaysOfAge first t (value t)
early_drawn first P t d h =
    says_itself first t d.ordered d.reduced
    (levels_from first 0 t d.ordered d.reduced (λ bits other s. alike _ _ (joined (d.values bits) (joined (h bits other s) (turned (d.values other))))))

-- ages that are the same everywhere
pub ages_alike : (first width : ℕ) (t : Tree) (x y : List Bool → Option ℕ) →
    ((bits : List Bool) → x bits ≡ y bits) → HasAges first width t x → HasAges first width t y
ages_alike first width t x y e h = record {
  ordered = h.ordered;
  reduced = h.reduced;
  fits = λ bits. subst (λ (o : Option ℕ). IfSome o (λ a. a < 2 ^ width)) (e bits) (h.fits bits);
  before = λ bits other s. sym (e bits) ∙ (h.before bits other s ∙ e other);
  values =
      λ bits. h.values bits ∙ ap (λ (o : Option ℕ). is_age o (spelled bits first width)) (e bits);
}

not_twice : (b : Bool) → b ≡ not (not b)
not_twice true = refl
not_twice false = refl

module _ (first width n delta : ℕ) (m : Tree) (age : List Bool → Option ℕ) (d : HasAges first width m age) where
  -- the e of f S[<=n] g
  pub since_within_ages : n < 2 ^ width → (f g : Tree) → SaysOfAge first f (value f) →
      SaysOfAge first g (value g) →
      HasAges first width
      (applied Or (applied AndNot (applied And f (age_drop first width delta n m)) g) (stamp first width g))
      (λ bits. since_within n delta (value f bits) (value g bits) (age bits))
  since_within_ages l f g p q =
      without-or_stamp first width _ g _ (value g)
      (and-ages first width f _ (value f) _ p (age_drop-ages first width delta n m age l d)) q

  -- that of P[<=n] f
  pub once_within_ages : n < 2 ^ width → (f : Tree) → SaysOfAge first f (value f) →
      HasAges first width
      (applied Or (applied AndNot (age_drop first width delta n m) f) (stamp first width f))
      (λ bits. since_within n delta true (value f bits) (age bits))
  once_within_ages l f p =
      without-or_stamp first width _ f _ (value f) (age_drop-ages first width delta n m age l d) p

  -- that of H[<=n] f, which is P[<=n] of the opposite
  pub always_within_ages : n < 2 ^ width → (f : Tree) → SaysOfAge first f (value f) →
      HasAges first width
      (applied Or (applied And (age_drop first width delta n m) f) (stamp first width (map_leaves not f)))
      (λ bits. since_within n delta true (not (value f bits)) (age bits))
  always_within_ages l f p =
      ages_alike first width _ _ _
      (λ bits. ap (λ (b : Bool). either_age (age_where b (dropped delta n (age bits))) (stamped (not (value f bits)))) (not_twice (value f bits)))
      (within-or_stamp first width _ f _ (value f) (age_drop-ages first width delta n m age l d) p)

  -- the e of f S[>n] g
  pub since_beyond_ages : n + 1 < 2 ^ width → (f g : Tree) → SaysOfAge first f (value f) →
      SaysOfAge first g (value g) →
      let a = applied And f (age_cap first width delta (n + 1) m) in
      HasAges first width
      (applied Or a (stamp first width (applied AndNot g (any_time first width a))))
      (λ bits. since_beyond n delta (value f bits) (value g bits) (age bits))
  since_beyond_ages l f g p q =
      or_stamp_elsewhere first width g _ (value g) _ q
      (and-ages first width f _ (value f) _ p (age_cap-ages first width delta (n + 1) m age l d))

  -- that of P[>n] g, and of H[>n] where g is the opposite
  pub once_beyond_ages : n + 1 < 2 ^ width → (g : Tree) (y : List Bool → Bool) →
      SaysOfAge first g y →
      let a = age_cap first width delta (n + 1) m in
      HasAges first width
      (applied Or a (stamp first width (applied AndNot g (any_time first width a))))
      (λ bits. since_beyond n delta true (y bits) (age bits))
  once_beyond_ages l g y q =
      or_stamp_elsewhere first width g _ y _ q (age_cap-ages first width delta (n + 1) m age l d)
