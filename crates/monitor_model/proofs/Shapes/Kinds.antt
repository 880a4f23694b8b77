-- What a subformula makes of trees of its children's shape and of what it remembers has its own
-- shape, kind by kind.
use Rattle.std.proofs.Common.{◌≡◌, ◌≢◌, ℕ, ◌∙◌, ◌+◌, ◌^◌, ◌<◌, ◌≤◌, ◌⊎◌, inl, inr, ⊎_elim, refl, sym, subst, arith, List, [], ◌∷◌, Bool, true, false, not, IsTrue, Option, Some, None}
use Rattle.std.specs.Prelude.{nat_eq, ◌||◌, ◌&&◌}
use Rattle.std.proofs.lemmas.Bool.{cases_eq}
use Rattle.std.proofs.lemmas.Bool.Decides.{eqb_tells}
use Rattle.qtl_syntax.specs.declared.formula.Bound.TheVariants.{AtMost, MoreThan}
use Rattle.wellformed.specs.CoreTree as core
use Rattle.wellformed.specs.CoreTree.{CoreFormula}
use Rattle.subformulas.specs.Free.{is_free}
use Rattle.subformulas.specs.Memory.{is_temporal}
use Rattle.subformulas.specs.Table.{children}
use Rattle.subformulas.specs.TimeBits.{past_bound}
use Rattle.subformulas.specs.Unfolded.{formula_with}
use Rattle.subformulas.specs.declared.table.Kind.{Kind}
use Rattle.subformulas.specs.declared.table.Kind.TheVariants as kind
use Rattle.subformulas.proofs.Free.{or_left, or_right, bound_or_free}
use Rattle.subformulas.proofs.NumberedRows.{and_parts}
use Rattle.value_codes.specs.Pairs.{Pairs}
use Rattle.node_tree.specs.Tree.{Tree}
use Rattle.node_tree.specs.Levels.{AllLevels, IsInBlock}
use Rattle.bdd_ops.specs.declared.op.Op.TheVariants.{And, Or, AndNot, Implies, Iff}
use Rattle.bdd_ops.specs.Apply.{map_leaves}
use Rattle.quantify.specs.Quantified.{after_rows}
use Rattle.operation_rows.specs.Rows.{Update}
use Rattle.operation_rows.specs.Kinds.{applied, atom_update}
use Rattle.monitor_model.specs.Setting.{Setting, first_of, time_width}
use Rattle.monitor_model.specs.Rows.{Frame, update, cubes, drop_ages, cap_ages, any_age, age_past, stamped}
use Rattle.monitor_model.specs.Shape.{oldest}
use Rattle.monitor_model.specs.Laws.{HaveCodesBelow}
use Rattle.monitor_model.proofs.Spelling.Bits.{apart}
use Rattle.monitor_model.proofs.Shapes.Aged.{Aged, aged_drop, aged_cap, aged_and, aged_within, aged_opposite, aged_beyond, own_any, own_at}
use Rattle.monitor_model.proofs.Shapes.Cubes.{atom_keeps}
use Rattle.monitor_model.proofs.Shapes.Free.{IsLevelOf, before_time}
use Rattle.monitor_model.proofs.Shapes.Kept.{Keeps, keeps_wider, keeps_zero, keeps_one, keeps_not, keeps_applied, block_levels, block_same, block_ordered, block_reduced}
use Rattle.monitor_model.proofs.Shapes.Levels.{weaker_levels}
use Rattle.monitor_model.proofs.Shapes.Unpaired.{IsUnpaired, value_on, set_other, other_outside}

-- an atom remembers nothing
atom_next : (ts : List Tree) → (atom_update ts).now ≡ (atom_update ts).next
atom_next [] = refl
atom_next (t ∷ ts) = refl

-- the free variables are those of the table
abbrev pub HasFree : Setting → CoreFormula → Type 0
HasFree s F = (y : ℕ) → IsTrue (is_free y F) → y < s.variables

module _ (s : Setting) (books : ℕ → Pairs) (x c : ℕ) where
  -- a tree of a formula's levels that reads alike at a code without a pair
  abbrev pub IsOwn : CoreFormula → Tree → Type 0
  IsOwn F t = Keeps (IsLevelOf s F) (IsUnpaired s books x c) t

  -- what is remembered of it: such a tree, or an age tree with ages that read alike
  abbrev pub Remembers : (F : CoreFormula) → Option ℕ → Tree → Type 0
  Remembers F None t = IsOwn F t
  Remembers F (Some most) t = Aged s books x c (IsLevelOf s F) most t

  -- what a subformula makes has the formula's shape
  pub record IsShaped (F : CoreFormula) (o : Option ℕ) (u : Update) : Type 0 where
    pub now : IsOwn F u.now
    pub next : Remembers F o u.next

module _ (fr : Frame) (x c : ℕ) where
  abbrev s : Setting
  s = fr.setting

  abbrev Own : CoreFormula → Tree → Type 0
  Own F t = IsOwn fr.setting fr.books x c F t

  abbrev OwnAges : CoreFormula → (most : ℕ) → Tree → Type 0
  OwnAges F most t = Aged fr.setting fr.books x c (IsLevelOf fr.setting F) most t

  abbrev Shaped : CoreFormula → Option ℕ → Update → Type 0
  Shaped F o u = IsShaped fr.setting fr.books x c F o u

  from_child : (F H : CoreFormula) (t : Tree) →
      ((y : ℕ) → IsTrue (is_free y F) → IsTrue (is_free y H)) → Own F t → Own H t
  from_child F H t w k =
      keeps_wider (IsLevelOf s F) (IsLevelOf s H) (IsUnpaired s fr.books x c) t
      (λ l (y, p, b). (y, w y p, b)) k

  from_left : (F G H : CoreFormula) (t : Tree) →
      ((y : ℕ) → is_free y H ≡ (is_free y F || is_free y G)) → Own F t → Own H t
  from_left F G H t e k = from_child F H t (λ y p. e y ∙ or_left (is_free y F) (is_free y G) p) k

  from_right : (F G H : CoreFormula) (t : Tree) →
      ((y : ℕ) → is_free y H ≡ (is_free y F || is_free y G)) → Own G t → Own H t
  from_right F G H t e k = from_child G H t (λ y p. e y ∙ or_right (is_free y F) (is_free y G) p) k

  -- ---- quantifiers

  module _ (all : Bool) (y : ℕ) (F H : CoreFormula) (t : Tree)
      (frees : (z : ℕ) → is_free z H ≡ (not (nat_eq z y) && is_free z F)) (k : Own F t) where
    own_or_block : (l : ℕ) → IsLevelOf s F l → IsInBlock (first_of s y) s.bits l ⊎ IsLevelOf s H l
    own_or_block l (z, p, b) = by_case (bound_or_free z y (is_free z F) (eqb_tells z y) p)
      where
        by_case : (y ≡ z) ⊎ IsTrue (not (nat_eq z y) && is_free z F) →
            IsInBlock (first_of s y) s.bits l ⊎ IsLevelOf s H l
        by_case (inl e) = inl (subst (λ (w : ℕ). IsInBlock (first_of s w) s.bits l) (sym e) b)
        by_case (inr q) = inr (z, frees z ∙ q, b)

    not_own : (z : ℕ) → IsTrue (is_free z H) → z ≢ y
    not_own z p e =
        by_test (and_parts (not (nat_eq z y)) (is_free z F) (sym (frees z) ∙ p)).0 (eqb_tells z y)
      where
        by_test : IsTrue (not (nat_eq z y)) →
            ((nat_eq z y ≡ true) × (z ≡ y)) ⊎ ((nat_eq z y ≡ false) × (z ≢ y)) → ⊥
        by_test n (inl q) = let d : not true ≡ true = rw q.0 at n in let no : false ≡ true = d in cc
        by_test n (inr q) = q.1 e

    block_own_levels : AllLevels (IsLevelOf s H) (after_rows all (first_of s y) s.bits s.bits t)
    block_own_levels =
        block_levels all (first_of s y) s.bits t k.ordered k.reduced (IsLevelOf s H)
        (weaker_levels (IsLevelOf s F)
        (λ l. IsInBlock (first_of s y) s.bits l ⊎ IsLevelOf s H l) own_or_block t k.levels)

    quantifier_own : Own H (after_rows all (first_of s y) s.bits s.bits t)
    quantifier_own = record {
      ordered = block_ordered all (first_of s y) s.bits t k.ordered k.reduced;
      reduced = block_reduced all (first_of s y) s.bits t k.ordered k.reduced;
      levels = block_own_levels;
      same = λ a b u. ⊎_elim
          (λ e. value_on (IsLevelOf s H) (after_rows all (first_of s y) s.bits s.bits t) a b
          block_own_levels
          (λ l (z, p, q).
          sym (u.outside l (apart x z s.bits l (λ d. not_own z p (d ∙ sym e)) q.0 q.1))))
          (λ n. block_same all (first_of s y) s.bits t k.ordered k.reduced
          (IsUnpaired s fr.books x c)
          (λ a b l v p u. set_other s fr.books x c a b l v (other_outside s fr.books x c y l n p) u)
          k.same a b u)
          (cases_eq y x);
    }

  -- ---- timed kinds

  module _ (H : CoreFormula) (low : HasFree fr.setting H) where
    opposite : (f : Tree) → Own H f → Own H (map_leaves not f)
    opposite f k = keeps_not (IsLevelOf fr.setting H) (IsUnpaired fr.setting fr.books x c) f k

    any_now : (most : ℕ) (e : Tree) → OwnAges H most e → Own H (any_age fr e)
    any_now most e k =
        own_any fr.setting fr.books x c (IsLevelOf fr.setting H) most e k

    past_now : (most n : ℕ) (e : Tree) → OwnAges H most e → Own H (age_past fr n e)
    past_now most n e k =
        own_at fr.setting fr.books x c (IsLevelOf fr.setting H) most (n + 1) e k

    dropped_ages : (n : ℕ) (m : Tree) → n + 1 < 2 ^ time_width fr.setting → OwnAges H n m →
        OwnAges H n (drop_ages fr n m)
    dropped_ages n m l k =
        aged_drop fr.setting fr.books x c (IsLevelOf fr.setting H) fr.delta n m (omega arith) k

    capped_ages : (n : ℕ) (m : Tree) → n + 1 < 2 ^ time_width fr.setting → OwnAges H (n + 1) m →
        OwnAges H (n + 1) (cap_ages fr n m)
    capped_ages n m l k =
        aged_cap fr.setting fr.books x c (IsLevelOf fr.setting H) fr.delta (n + 1) m l k

    kept_ages : (most : ℕ) (f t : Tree) → Own H f → OwnAges H most t →
        OwnAges H most (applied And f t)
    kept_ages most f t h k =
        aged_and fr.setting fr.books x c (IsLevelOf fr.setting H) (before_time fr.setting H low)
        most f t h k

    within_ages : (most : ℕ) (t g : Tree) → OwnAges H most t → Own H g →
        OwnAges H most (applied Or (applied AndNot t g) (stamped fr g))
    within_ages most t g k h =
        aged_within fr.setting fr.books x c (IsLevelOf fr.setting H) (before_time fr.setting H low)
        most t g k h

    opposite_ages : (most : ℕ) (t f : Tree) → OwnAges H most t → Own H f →
        OwnAges H most (applied Or (applied And t f) (stamped fr (map_leaves not f)))
    opposite_ages most t f k h =
        aged_opposite fr.setting fr.books x c (IsLevelOf fr.setting H)
        (before_time fr.setting H low)
        most t f k h

    beyond_ages : (most : ℕ) (t g : Tree) → OwnAges H most t → Own H g →
        OwnAges H most (applied Or t (stamped fr (applied AndNot g (any_age fr t))))
    beyond_ages most t g k h =
        aged_beyond fr.setting fr.books x c (IsLevelOf fr.setting H) (before_time fr.setting H low)
        most t g k h

    since_at_most_shaped : (n : ℕ) (f g m : Tree) → n + 1 < 2 ^ time_width fr.setting → Own H f →
        Own H g →
        OwnAges H n m → Shaped H (Some n) (update fr (kind.SinceAtMost n) f g m)
    since_at_most_shaped n f g m l h k r =
        let b = kept_ages n f (drop_ages fr n m) h (dropped_ages n m l r) in
        let e = within_ages n (applied And f (drop_ages fr n m)) g b k in
        record { now = any_now n _ e; next = e }

    once_at_most_shaped : (n : ℕ) (f g m : Tree) → n + 1 < 2 ^ time_width fr.setting → Own H f →
        OwnAges H n m → Shaped H (Some n) (update fr (kind.OnceAtMost n) f g m)
    once_at_most_shaped n f g m l h r =
        let e = within_ages n (drop_ages fr n m) f (dropped_ages n m l r) h in
        record { now = any_now n _ e; next = e }

    always_at_most_shaped : (n : ℕ) (f g m : Tree) → n + 1 < 2 ^ time_width fr.setting → Own H f →
        OwnAges H n m → Shaped H (Some n) (update fr (kind.AlwaysAtMost n) f g m)
    always_at_most_shaped n f g m l h r =
        let e = opposite_ages n (drop_ages fr n m) f (dropped_ages n m l r) h in
        record { now = opposite _ (any_now n _ e); next = e }

    since_more_than_shaped : (n : ℕ) (f g m : Tree) → n + 1 < 2 ^ time_width fr.setting →
        Own H f → Own H g → OwnAges H (n + 1) m →
        Shaped H (Some (n + 1)) (update fr (kind.SinceMoreThan n) f g m)
    since_more_than_shaped n f g m l h k r =
        let a = kept_ages (n + 1) f (cap_ages fr n m) h (capped_ages n m l r) in
        let e = beyond_ages (n + 1) (applied And f (cap_ages fr n m)) g a k in
        record { now = past_now (n + 1) n _ e; next = e }

    once_more_than_shaped : (n : ℕ) (f g m : Tree) → n + 1 < 2 ^ time_width fr.setting → Own H f →
        OwnAges H (n + 1) m → Shaped H (Some (n + 1)) (update fr (kind.OnceMoreThan n) f g m)
    once_more_than_shaped n f g m l h r =
        let e = beyond_ages (n + 1) (cap_ages fr n m) f (capped_ages n m l r) h in
        record { now = past_now (n + 1) n _ e; next = e }

    always_more_than_shaped : (n : ℕ) (f g m : Tree) → n + 1 < 2 ^ time_width fr.setting → Own H f →
        OwnAges H (n + 1) m → Shaped H (Some (n + 1)) (update fr (kind.AlwaysMoreThan n) f g m)
    always_more_than_shaped n f g m l h r =
        let e = beyond_ages (n + 1) (cap_ages fr n m) (map_leaves not f) (capped_ages n m l r)
        (opposite f h) in
        record { now = opposite _ (past_now (n + 1) n _ e); next = e }

    -- ---- kinds without a bound

    joined : (f g : Tree) → Own H f → Own H g → Own H (applied And f g)
    joined f g h k =
        keeps_applied (IsLevelOf fr.setting H) (IsUnpaired fr.setting fr.books x c) And f g h k

    united : (f g : Tree) → Own H f → Own H g → Own H (applied Or f g)
    united f g h k =
        keeps_applied (IsLevelOf fr.setting H) (IsUnpaired fr.setting fr.books x c) Or f g h k

    without : (f g : Tree) → Own H f → Own H g → Own H (applied AndNot f g)
    without f g h k =
        keeps_applied (IsLevelOf fr.setting H) (IsUnpaired fr.setting fr.books x c) AndNot f g h k

    implied : (f g : Tree) → Own H f → Own H g → Own H (applied Implies f g)
    implied f g h k =
        keeps_applied (IsLevelOf fr.setting H) (IsUnpaired fr.setting fr.books x c) Implies f g h k

    tied : (f g : Tree) → Own H f → Own H g → Own H (applied Iff f g)
    tied f g h k =
        keeps_applied (IsLevelOf fr.setting H) (IsUnpaired fr.setting fr.books x c) Iff f g h k

  -- each kind makes trees of its formula's shape
  pub kind_shaped : HaveCodesBelow fr.setting fr.books →
      (k : Kind) (F G : CoreFormula) (f g m : Tree) →
      HasFree fr.setting (formula_with k F G) → past_bound k < 2 ^ time_width fr.setting →
      (1 ≤ children k → IsOwn fr.setting fr.books x c F f) →
      (2 ≤ children k → IsOwn fr.setting fr.books x c G g) →
      (IsTrue (is_temporal k) →
      Remembers fr.setting fr.books x c (formula_with k F G) (oldest k) m) →
      IsShaped fr.setting fr.books x c (formula_with k F G) (oldest k) (update fr k f g m)
  kind_shaped few kind.True F G f g m low fits one two mem =
      record { now = keeps_one _ _; next = keeps_one _ _ }
  kind_shaped few kind.False F G f g m low fits one two mem =
      record { now = keeps_zero _ _; next = keeps_zero _ _ }
  kind_shaped few (kind.Atom a) F G f g m low fits one two mem =
      let k = atom_keeps fr a few x c in
      record { now = k; next = subst (Own (core.Atom a)) (atom_next (cubes fr a)) k }
  kind_shaped few kind.Not F G f g m low fits one two mem =
      let k = opposite (core.Not F) low f (one (omega arith)) in
      record { now = k; next = k }
  kind_shaped few kind.And F G f g m low fits one two mem =
      let H = core.And F G in
      let h = from_left F G H f (λ y. refl) (one (omega arith)) in
      let i = from_right F G H g (λ y. refl) (two (omega arith)) in
      let k = joined H low f g h i in
      record { now = k; next = k }
  kind_shaped few kind.Or F G f g m low fits one two mem =
      let H = core.Or F G in
      let h = from_left F G H f (λ y. refl) (one (omega arith)) in
      let i = from_right F G H g (λ y. refl) (two (omega arith)) in
      let k = united H low f g h i in
      record { now = k; next = k }
  kind_shaped few kind.Implies F G f g m low fits one two mem =
      let H = core.Implies F G in
      let h = from_left F G H f (λ y. refl) (one (omega arith)) in
      let i = from_right F G H g (λ y. refl) (two (omega arith)) in
      let k = implied H low f g h i in
      record { now = k; next = k }
  kind_shaped few kind.Iff F G f g m low fits one two mem =
      let H = core.Iff F G in
      let h = from_left F G H f (λ y. refl) (one (omega arith)) in
      let i = from_right F G H g (λ y. refl) (two (omega arith)) in
      let k = tied H low f g h i in
      record { now = k; next = k }
  kind_shaped few (kind.Exists y) F G f g m low fits one two mem =
      let k = quantifier_own false y F (core.Exists y F) f (λ z. refl) (one (omega arith)) in
      record { now = k; next = k }
  kind_shaped few (kind.Forall y) F G f g m low fits one two mem =
      let k = quantifier_own true y F (core.Forall y F) f (λ z. refl) (one (omega arith)) in
      record { now = k; next = k }
  kind_shaped few kind.Prev F G f g m low fits one two mem =
      record { now = mem refl; next = one (omega arith) }
  kind_shaped few kind.Since F G f g m low fits one two mem =
      let H = core.Since F G in
      let h = from_left F G H f (λ y. refl) (one (omega arith)) in
      let i = from_right F G H g (λ y. refl) (two (omega arith)) in
      let k = united H low g (applied And f m) i (joined H low f m h (mem refl)) in
      record { now = k; next = k }
  kind_shaped few kind.Once F G f g m low fits one two mem =
      let k = united (core.Once F) low f m (one (omega arith)) (mem refl) in
      record { now = k; next = k }
  kind_shaped few kind.Always F G f g m low fits one two mem =
      let k = joined (core.Always F) low f m (one (omega arith)) (mem refl) in
      record { now = k; next = k }
  kind_shaped few kind.Interval F G f g m low fits one two mem =
      let H = core.Interval F G in
      let h = from_left F G H f (λ y. refl) (one (omega arith)) in
      let i = from_right F G H g (λ y. refl) (two (omega arith)) in
      let k = without H low (applied Or f m) g (united H low f m h (mem refl)) i in
      record { now = k; next = k }
  kind_shaped few (kind.SinceAtMost n) F G f g m low fits one two mem =
      let H = core.TimedSince (AtMost n) F G in
      since_at_most_shaped H low n f g m fits (from_left F G H f (λ y. refl) (one (omega arith)))
      (from_right F G H g (λ y. refl) (two (omega arith))) (mem refl)
  kind_shaped few (kind.SinceMoreThan n) F G f g m low fits one two mem =
      let H = core.TimedSince (MoreThan n) F G in
      since_more_than_shaped H low n f g m fits (from_left F G H f (λ y. refl) (one (omega arith)))
      (from_right F G H g (λ y. refl) (two (omega arith))) (mem refl)
  kind_shaped few (kind.OnceAtMost n) F G f g m low fits one two mem =
      once_at_most_shaped (core.TimedOnce (AtMost n) F) low n f g m fits (one (omega arith))
      (mem refl)
  kind_shaped few (kind.OnceMoreThan n) F G f g m low fits one two mem =
      once_more_than_shaped (core.TimedOnce (MoreThan n) F) low n f g m fits (one (omega arith))
      (mem refl)
  kind_shaped few (kind.AlwaysAtMost n) F G f g m low fits one two mem =
      always_at_most_shaped (core.TimedAlways (AtMost n) F) low n f g m fits (one (omega arith))
      (mem refl)
  kind_shaped few (kind.AlwaysMoreThan n) F G f g m low fits one two mem =
      always_more_than_shaped (core.TimedAlways (MoreThan n) F) low n f g m fits (one (omega arith))
      (mem refl)
