-- The handles of a monitor: before the first event, and after the rows of an event.
use Rattle.std.specs.Prelude.{◌≡◌, ℕ, ◌+◌, ◌*◌, ◌≤◌, List, [], ◌∷◌, ◌++◌, length, map, take, drop, if◌then◌else◌}
use Rattle.node_tree.specs.Tree.{Tree}
use Rattle.node_table.specs.Table.{Table, tree_of}
use Rattle.node_table.specs.Collects.{AllValid}
use Rattle.subformulas.specs.Memory.{is_temporal, IsTemporal}
use Rattle.subformulas.specs.declared.table.Kind.{Kind}
use Rattle.subformulas.specs.declared.table.Kind.TheVariants as kind
use Rattle.subformulas.specs.declared.table.Sub.{Sub}
use Rattle.monitor_model.specs.Laws.{first_memory}
use Rattle.monitor_model.specs.Rows.{Sources, now_at, next_at}
use Rattle.monitor_model.specs.State.{State, temporal_count, kept, memory_of, now_of}

-- the leaf that a temporal subformula of this kind remembers before the first event
abbrev pub first_handle : (zero_leaf one_leaf : ℕ) → Kind → ℕ
first_handle zero_leaf one_leaf kind.Always = one_leaf
first_handle zero_leaf one_leaf _ = zero_leaf

-- those of the temporal subformulas, in order
abbrev pub first_handles : (zero_leaf one_leaf : ℕ) → List Sub → List ℕ
first_handles zero_leaf one_leaf [] = []
first_handles zero_leaf one_leaf (u ∷ subs) =
    if is_temporal u.kind then
    first_handle zero_leaf one_leaf u.kind ∷ first_handles zero_leaf one_leaf subs else
    first_handles zero_leaf one_leaf subs

-- and their trees
abbrev pub first_memories : List Sub → List Tree
first_memories [] = []
first_memories (u ∷ subs) =
    if is_temporal u.kind then first_memory u.kind ∷ first_memories subs else first_memories subs

-- the handles before the first event
pub record AreFirstHandles (subs : List Sub) (t : Table) (hs : List ℕ) : Type 0 where
  pub count : length hs ≡ 2 * temporal_count subs + length subs + 3
  pub valid : AllValid t hs
  pub twice : take (temporal_count subs) (drop (temporal_count subs) hs) ≡
      take (temporal_count subs) hs
  pub trees : map (tree_of t) (take (temporal_count subs) hs) ≡ first_memories subs

-- the handles once an event is done: those that come next are what is remembered
abbrev pub brought_forward : (remembered : ℕ) → List ℕ → List ℕ
brought_forward n hs = take n (drop n hs) ++ drop n hs

-- what a monitor's handles are after an event whose rows were made from these sources
pub record HasRemembered (s : Sources) (m : State) : Type 0 where
  pub count : length m.handles ≡ 2 * kept m + length m.plan.subs + 3
  pub valid : AllValid m.shelf.table m.handles
  pub next : take (kept m) (drop (kept m) m.handles) ≡ take (kept m) m.handles
  pub memory : (k : ℕ) → IsTemporal m.plan.subs k → memory_of m k ≡ next_at s k
  pub now : (k : ℕ) → 1 ≤ k → k ≤ length m.plan.subs → now_of m k ≡ now_at s k
