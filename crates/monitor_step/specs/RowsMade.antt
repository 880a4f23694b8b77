-- What the rows of an event leave in the table and among the handles.
use Rattle.std.specs.Prelude.{◌≡◌, ℕ, ◌+◌, ◌-◌, ◌*◌, ◌^◌, ◌<◌, List, ◌++◌, length, map, take, Result, Ok, Err, Some, None, slice_get, slice_index_or}
use Rattle.node_tree.specs.Levels.{LevelsBelow}
use Rattle.node_tree.specs.Tree.{Tree, Zero}
use Rattle.node_table.specs.Table.{Table, tree_of}
use Rattle.node_table.specs.Collects.{AllValid}
use Rattle.subformulas.specs.declared.table.Kind.{Kind}
use Rattle.subformulas.specs.declared.table.Kind.TheVariants as kind
use Rattle.subformulas.specs.declared.table.Sub.{Sub}
use Rattle.monitor_model.specs.Rows.{Sources, subs_of, updates, now_at, next_at, of_temporal, nodes_full}
use Rattle.timed_bits.specs.Ages.{HasAgesTo}
use Rattle.monitor_model.specs.Setting.{Setting, first_of, time_first, time_width}
use Rattle.monitor_model.specs.State.{temporal_count}
use Rattle.monitor_step.specs.declared.event_rows.NodesFull.{NodesFull}

-- the tree that subformula k remembers, where the temporal subformulas remember these, in order
abbrev pub memory_in : List Sub → List Tree → ℕ → Tree
memory_in subs trees k = slice_index_or trees (temporal_count (take (k - 1) subs)) Zero

-- after the handles of what was remembered come those of what is remembered next and of the trees at
-- the event
pub record HasRows (s : Sources) (before after : List ℕ) (old new : Table) : Type 0 where
  pub count : length after ≡ length before
  pub valid : AllValid new after
  pub trees : map (tree_of new) (take (2 * temporal_count (subs_of s) + length (subs_of s)) after) ≡
      map (tree_of old) (take (temporal_count (subs_of s)) before) ++
      (of_temporal (next_at s) 1 (subs_of s) ++ map (λ u. u.now) (updates s))
  pub fit : nodes_full s ≡ None

-- the rows were made, or this one is the first that doesn't fit
abbrev pub AnswersRows :
    Sources → (before after : List ℕ) → (old new : Table) → Result Unit NodesFull → Type 0
AnswersRows s before after old new (Ok u) = HasRows s before after old new
AnswersRows s before after old new (Err full) = nodes_full s ≡ Some (full.subformula, full.row)

-- a tree whose levels stand before the time block
abbrev pub IsBeforeTime : Setting → Tree → Type 0
IsBeforeTime s t = LevelsBelow (time_first s) t

-- a remembered tree has ages, at most so great, and the time block has room for these
pub record HasOldest (s : Setting) (most : ℕ) (t : Tree) : Type 0 where
  pub ages : HasAgesTo (time_first s) (time_width s) most t
  pub room : most < 2 ^ time_width s

-- what the rows of a kind ask of the trees that they read, those of its children and the one that it
-- remembers: no level of a quantifier's operand stands behind the quantifier's block; those of a timed
-- operator's children stand before the time block, and what it remembers has ages within its bound
abbrev pub IsReadable : Setting → Kind → (f g m : Tree) → Type 0
IsReadable s (kind.Exists x) f g m = LevelsBelow (first_of s x + s.bits) f
IsReadable s (kind.Forall x) f g m = LevelsBelow (first_of s x + s.bits) f
IsReadable s (kind.SinceAtMost n) f g m = IsBeforeTime s f × IsBeforeTime s g × HasOldest s n m
IsReadable s (kind.SinceMoreThan n) f g m =
    IsBeforeTime s f × IsBeforeTime s g × HasOldest s (n + 1) m
IsReadable s (kind.OnceAtMost n) f g m = IsBeforeTime s f × HasOldest s n m
IsReadable s (kind.OnceMoreThan n) f g m = IsBeforeTime s f × HasOldest s (n + 1) m
IsReadable s (kind.AlwaysAtMost n) f g m = IsBeforeTime s f × HasOldest s n m
IsReadable s (kind.AlwaysMoreThan n) f g m = IsBeforeTime s f × HasOldest s (n + 1) m
IsReadable s _ f g m = Unit {0}

-- so of all subformulas, at an event
abbrev pub AreReadable : Sources → Type 0
AreReadable s =
    (k : ℕ) (u : Sub) → slice_get (subs_of s) k ≡ Some u →
    IsReadable s.frame.setting u.kind (now_at s u.left) (now_at s u.right) (s.memory (k + 1))
