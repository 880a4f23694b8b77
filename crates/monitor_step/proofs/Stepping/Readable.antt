-- The rows of an event can be made of its trees: the blocks of quantifiers are the deepest of their operands' trees, and timed
-- operators find trees before the time block and ages within their bounds.
use Rattle.std.proofs.Common.{◌≡◌, ℕ, ◌+◌, ◌-◌, ◌^◌, ◌<◌, ◌≤◌, refl, sym, ap, ◌∙◌, subst, arith, length, true, Some}
use Rattle.std.specs.Prelude.{slice_get}
use Rattle.std.proofs.lemmas.Option.{slice_get_within}
use Rattle.subformulas.specs.Free.{IsDeepest, IsFreeAt}
use Rattle.subformulas.specs.Memory.{is_temporal, IsTemporal}
use Rattle.subformulas.specs.Table.{children, AreChildren, HasLawfulBound, IsSound}
use Rattle.subformulas.specs.TimeBits.{past_bound}
use Rattle.subformulas.specs.Unfolded.{formula_at}
use Rattle.subformulas.specs.declared.table.Kind.{Kind}
use Rattle.subformulas.specs.declared.table.Kind.TheVariants as kind
use Rattle.subformulas.specs.declared.table.Sub.{Sub}
use Rattle.subformulas.proofs.ByNumber.{all_at, first_child, second_child}
use Rattle.subformulas.proofs.Digits.{ages_fit}
use Rattle.subformulas.proofs.Plain.{some_is}
use Rattle.subformulas.proofs.Unfold.{children_at}
use Rattle.node_tree.specs.Tree.{Tree}
use Rattle.monitor_model.specs.Rows.{Sources, now_at, nth, updates}
use Rattle.monitor_model.specs.Setting.{Setting, time_first, time_width}
use Rattle.monitor_model.specs.Shape.{AreMemories, HasMemoryShape, HasOwnLevels, IsOwnLevel, oldest}
use Rattle.monitor_model.specs.State.{State, memory_of, pairs_in, setting_of}
use Rattle.monitor_model.proofs.Shapes.Deepest.{child_below}
use Rattle.monitor_model.proofs.Shapes.Free.{before_time, free_below}
use Rattle.monitor_model.proofs.Shapes.Levels.{weaker_levels}
use Rattle.monitor_model.proofs.Shapes.Staying.{past_fits}
use Rattle.monitor_step.specs.RowsMade.{AreReadable, HasOldest, IsBeforeTime, IsReadable}

-- a tree with levels of free variables alone, which are variables of the setting
pub record IsOwn (s : Setting) (j : ℕ) (t : Tree) : Type 0 where
  pub levels : HasOwnLevels s j t
  pub few : (x : ℕ) → IsFreeAt s.subs j x → x < s.variables

own_before : (s : Setting) (j : ℕ) (t : Tree) → IsOwn s j t → IsBeforeTime s t
own_before s j t own =
    weaker_levels (IsOwnLevel s j) (λ l. l < time_first s) (before_time s (formula_at s.subs j) own.few) t
    own.levels

module _ (s : Setting) (k left right : ℕ) (f g m : Tree) where
  -- an age tree of that shape has ages within the bound, and the time block has room for it
  has_oldest : (most past : ℕ) → most < past + 1 → past < 2 ^ time_width s →
      HasMemoryShape s k (Some most) m → HasOldest s most m
  has_oldest most past few room shape = record { ages = shape.1; room = omega (arith, few, room) }

  -- so of the trees of each kind
  readable : (j : Kind) → IsDeepest s.subs j left → past_bound j < 2 ^ time_width s →
      (1 ≤ children j → IsOwn s left f) → (2 ≤ children j → IsOwn s right g) →
      (is_temporal j ≡ true → HasMemoryShape s k (oldest j) m) → IsReadable s j f g m
  readable (kind.Exists x) deepest fits l r shape =
      child_below s left x deepest f (l (omega arith)).levels
  readable (kind.Forall x) deepest fits l r shape =
      child_below s left x deepest f (l (omega arith)).levels
  readable (kind.SinceAtMost n) deepest fits l r shape = (
    own_before s left f (l (omega arith)),
    own_before s right g (r (omega arith)),
    has_oldest n (n + 1) (omega arith) fits (shape refl),
  )
  readable (kind.SinceMoreThan n) deepest fits l r shape = (
    own_before s left f (l (omega arith)),
    own_before s right g (r (omega arith)),
    has_oldest (n + 1) (n + 1) (omega arith) fits (shape refl),
  )
  readable (kind.OnceAtMost n) deepest fits l r shape =
      (own_before s left f (l (omega arith)), has_oldest n (n + 1) (omega arith) fits (shape refl))
  readable (kind.OnceMoreThan n) deepest fits l r shape =
      (own_before s left f (l (omega arith)), has_oldest (n + 1) (n + 1) (omega arith) fits (shape refl))
  readable (kind.AlwaysAtMost n) deepest fits l r shape =
      (own_before s left f (l (omega arith)), has_oldest n (n + 1) (omega arith) fits (shape refl))
  readable (kind.AlwaysMoreThan n) deepest fits l r shape =
      (own_before s left f (l (omega arith)), has_oldest (n + 1) (n + 1) (omega arith) fits (shape refl))
  readable _ deepest fits l r shape = tt

-- the rows of a live monitor's event, where its trees have levels of free variables alone
module _ (m : State) (sound : IsSound m.plan) (made other : Sources)
    (setting : made.frame.setting ≡ setting_of m) (same : updates made ≡ updates other)
    (memory : (k : ℕ) → IsTemporal m.plan.subs k → made.memory k ≡ memory_of m k)
    (memories : AreMemories (setting_of m) (pairs_in m) (memory_of m))
    (own : (k : ℕ) → 1 ≤ k → k ≤ length m.plan.subs → HasOwnLevels (setting_of m) k (now_at other k)) where
  own_at : (j : ℕ) → 1 ≤ j → j ≤ length m.plan.subs → IsOwn (setting_of m) j (now_at made j)
  own_at j low high = record {
    levels = subst (HasOwnLevels (setting_of m) j) (ap (λ us. (nth us j).now) (sym same)) (own j low high);
    few = free_below (length m.plan.variables) m.plan.subs sound.table sound.uses j low high;
  }

  module _ (k : ℕ) (u : Sub) (there : slice_get m.plan.subs k ≡ Some u) where
    at_number : slice_get m.plan.subs (k + 1 - 1) ≡ Some u
    at_number =
        let place : k + 1 - 1 ≡ k = omega arith in
        ap (λ (j : ℕ). slice_get m.plan.subs j) place ∙ there

    within : k < length m.plan.subs
    within = slice_get_within m.plan.subs k u there

    kids : AreChildren (k + 1) (children u.kind) u.left u.right
    kids = children_at m.plan.subs (k + 1) u sound.table (omega arith) at_number

    shape : is_temporal u.kind ≡ true → HasMemoryShape (setting_of m) (k + 1) (oldest u.kind) (made.memory (k + 1))
    shape e =
        let temporal : IsTemporal m.plan.subs (k + 1) = (omega arith, some_is _ u _ at_number e) in
        subst (HasMemoryShape (setting_of m) (k + 1) (oldest u.kind)) (sym (memory (k + 1) temporal))
        (memories.shape (k + 1) u at_number temporal)

    readable_own : IsReadable (setting_of m) u.kind (now_at made u.left) (now_at made u.right) (made.memory (k + 1))
    readable_own =
        let w = within in
        readable (setting_of m) (k + 1) u.left u.right (now_at made u.left) (now_at made u.right)
        (made.memory (k + 1)) u.kind (sound.deepest (k + 1) u (omega arith) at_number)
        (ages_fit m.plan.subs k u there
        (past_fits u.kind (all_at (λ z. HasLawfulBound z.kind) m.plan.subs k u sound.bounds there)))
        (λ some. let (a, b) = first_child (k + 1) (children u.kind) u.left u.right kids some in
        own_at u.left a (omega (arith, b, w)))
        (λ two. let (a, b) = second_child (k + 1) (children u.kind) u.left u.right kids two in
        own_at u.right a (omega (arith, b, w)))
        shape

  pub are_readable : AreReadable made
  are_readable k u at =
      subst (λ (s : Setting). IsReadable s u.kind (now_at made u.left) (now_at made u.right) (made.memory (k + 1)))
      (sym setting) (readable_own k u (ap (λ (s : Setting). slice_get s.subs k) (sym setting) ∙ at))
