-- The trees of a monitor's handles are ordered and reduced, as `AreDiagrams` asks.
use Rattle.std.proofs.Common.{ℕ, zero, suc, arith, List, [], ◌∷◌, map}
use Rattle.std.specs.Prelude.{slice_index_or}
use Rattle.node_tree.specs.Tree.{Zero, IsOrdered, IsReduced}
use Rattle.node_table.specs.Table.{Table, tree_of, IsShared}
use Rattle.node_table.specs.Collects.{AllValid}
use Rattle.monitor_model.specs.Laws.{AreDiagrams}
use Rattle.monitor_model.specs.State.{State, tree_number, memory_of}

-- the tree of each valid handle is, and so is the one in place of what isn't there
handle_diagram : (t : Table) → IsShared t → (hs : List ℕ) → AllValid t hs → (i : ℕ) →
    IsOrdered (slice_index_or (map (tree_of t) hs) i Zero) ×
    IsReduced (slice_index_or (map (tree_of t) hs) i Zero)
handle_diagram t s [] v i = (tt, tt)
handle_diagram t s (h ∷ hs) v zero =
    (s.ordered h (v 0 (omega arith)), s.reduced h (v 0 (omega arith)))
handle_diagram t s (h ∷ hs) v (suc i) =
    handle_diagram t s hs (λ j l. v (suc j) (omega arith)) i

-- the tree of each handle's number
pub number_diagram : (m : State) → IsShared m.shelf.table → AllValid m.shelf.table m.handles →
    (i : ℕ) → IsOrdered (tree_number m i) × IsReduced (tree_number m i)
number_diagram m s v i = handle_diagram m.shelf.table s m.handles v i

-- so the remembered trees of a live monitor are diagrams
pub memory_diagrams : (m : State) → IsShared m.shelf.table → AllValid m.shelf.table m.handles →
    AreDiagrams m.plan.subs (memory_of m)
memory_diagrams m s v k t = number_diagram m s v _
