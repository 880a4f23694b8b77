-- What holds of the diagrams of every live monitor, also of one that stands for no log.
use Rattle.std.specs.Prelude.{◌≡◌, ℕ, ◌-◌, ◌+◌, ◌^◌, ◌<◌, ◌≤◌, ◌⊎◌, length, true, false, Option, Some, None, slice_get}
use Rattle.subformulas.specs.Free.{IsFreeAt}
use Rattle.subformulas.specs.Memory.{IsTemporal}
use Rattle.subformulas.specs.declared.table.Kind.{Kind}
use Rattle.subformulas.specs.declared.table.Kind.TheVariants as kind
use Rattle.subformulas.specs.declared.table.Sub.{Sub}
use Rattle.value_codes.specs.Pairs.{Pairs, value_of}
use Rattle.node_tree.specs.Tree.{Tree}
use Rattle.node_tree.specs.Levels.{AllLevels, IsInBlock}
use Rattle.code_reclaim.specs.Told.{differs}
use Rattle.quantify.specs.Quantified.{after_rows}
use Rattle.timed_bits.specs.Ages.{HasAgesTo}
use Rattle.monitor_model.specs.Setting.{Setting, first_of, time_first, time_width}

-- the greatest age that a timed kind remembers
abbrev pub oldest : Kind → Option ℕ
oldest (kind.SinceAtMost n) = Some n
oldest (kind.OnceAtMost n) = Some n
oldest (kind.AlwaysAtMost n) = Some n
oldest (kind.SinceMoreThan n) = Some (n + 1)
oldest (kind.OnceMoreThan n) = Some (n + 1)
oldest (kind.AlwaysMoreThan n) = Some (n + 1)
oldest _ = None

module _ (s : Setting) where
  -- the level is one of a free variable of subformula k
  abbrev pub IsOwnLevel : (k level : ℕ) → Type 0
  IsOwnLevel k level = (x : ℕ) × IsFreeAt s.subs k x × IsInBlock (first_of s x) s.bits level

  -- the level is one of the time block
  abbrev pub IsTimeLevel : (level : ℕ) → Type 0
  IsTimeLevel level = IsInBlock (time_first s) (time_width s) level

  -- the tree of subformula k has levels of its free variables alone
  abbrev pub HasOwnLevels : (k : ℕ) → Tree → Type 0
  HasOwnLevels k t = AllLevels (IsOwnLevel k) t

  -- a remembered tree has no others, or, of a timed subformula, is an age tree over the time block
  abbrev pub HasMemoryShape : (k : ℕ) → Option ℕ → Tree → Type 0
  HasMemoryShape k None t = HasOwnLevels k t
  HasMemoryShape k (Some most) t =
      AllLevels (λ l. IsOwnLevel k l ⊎ IsTimeLevel l) t ×
      HasAgesTo (time_first s) (time_width s) most t

  -- the tree of a quantifier is made from its child's
  abbrev pub IsOverChild : Kind → (child tree : Tree) → Type 0
  IsOverChild (kind.Exists x) child t = t ≡ after_rows false (first_of s x) s.bits s.bits child
  IsOverChild (kind.Forall x) child t = t ≡ after_rows true (first_of s x) s.bits s.bits child
  IsOverChild _ child t = Unit {0}

  module _ (books : ℕ → Pairs) where
    -- a code without a pair reads like all ones
    abbrev pub ReadsAlike : Tree → Type 0
    ReadsAlike t =
        (x c : ℕ) → x < s.variables → c < 2 ^ s.bits → value_of (books x) c ≡ None →
        differs (first_of s x) s.bits c t ≡ false

    -- what holds of the remembered trees
    pub record AreMemories (memory : ℕ → Tree) : Type 0 where
      pub shape : (k : ℕ) (u : Sub) → slice_get s.subs (k - 1) ≡ Some u → IsTemporal s.subs k →
          HasMemoryShape k (oldest u.kind) (memory k)
      pub alike : (k : ℕ) → IsTemporal s.subs k → ReadsAlike (memory k)

    -- and of the trees at an event
    pub record AreResults (now : ℕ → Tree) : Type 0 where
      pub shape : (k : ℕ) → 1 ≤ k → k ≤ length s.subs → HasOwnLevels k (now k)
      pub alike : (k : ℕ) → 1 ≤ k → k ≤ length s.subs → ReadsAlike (now k)
      pub over : (k : ℕ) (u : Sub) → 1 ≤ k → slice_get s.subs (k - 1) ≡ Some u →
          IsOverChild u.kind (now u.left) (now k)
