-- What the rows of an event are made with, as the definitions speak of it.
use Rattle.std.specs.Prelude.{◌≡◌, ℕ, ◌+◌, ◌*◌, ◌≤◌, List, length, Option, Some, None}
use Rattle.node_tree.specs.Tree.{Tree, Zero}
use Rattle.subformulas.specs.Matched.{items_of}
use Rattle.subformulas.specs.Table.{Table}
use Rattle.subformulas.specs.TimeBits.{time_bits}
use Rattle.subformulas.specs.declared.need_list.Stretch.{Stretch}
use Rattle.subformulas.specs.declared.table.Kind.{Kind}
use Rattle.subformulas.specs.declared.table.Kind.TheVariants as kind
use Rattle.bdd_ops.specs.declared.code_cubes.BlockCode.{BlockCode}
use Rattle.bdd_ops.specs.Codes.{code_list_literals}
use Rattle.bdd_ops.specs.Cube.{cube_tree, AscendFrom}
use Rattle.operation_rows.specs.Kinds.{one_row}
use Rattle.operation_rows.specs.Rows.{Update}
use Rattle.monitor_model.specs.Rows.{Frame, Sources}
use Rattle.monitor_model.specs.Setting.{Setting}
use Rattle.monitor_step.specs.Coded.{IsCoded}
use Rattle.monitor_step.specs.RowsMade.{memory_in}
use Rattle.monitor_step.specs.Serving.{pairs_at}
use Rattle.monitor_step.specs.declared.frame.Frame as of_rows

-- the setting of a monitor of a plan, whose codes have so many bits and whose table has so many nodes
abbrev pub setting_with : Table → (bits nodes : ℕ) → Setting
setting_with plan bits nodes = record {
  bits = bits;
  nodes = nodes;
  variables = length plan.variables;
  subs = plan.subs;
}

-- the frame that the definitions speak of
abbrev pub frame_of : Setting → of_rows.Frame → Frame
frame_of s f = record {
  setting = s;
  books = pairs_at f.books.now;
  event = f.event.now;
  delta = f.delta;
}

-- what the rows of an event are made from, where the temporal subformulas remember these trees, in
-- order
abbrev pub sources_of : Table → (nodes : ℕ) → of_rows.Frame → List Tree → Sources
sources_of plan nodes f trees = record {
  frame = frame_of (setting_with plan f.bits nodes) f;
  memory = memory_in plan.subs trees;
}

-- the frame's time block stands behind the blocks of the plan's variables, and has its time bits
pub record HasTimeBlock (plan : Table) (f : of_rows.Frame) : Type 0 where
  pub first : f.time.first ≡ length plan.variables * f.bits
  pub bits : f.time.bits ≡ time_bits plan.subs
  pub few_bits : f.time.bits ≤ 20
  pub within : f.time.first + f.time.bits ≤ 65536

-- where the kind is an atom, its codes are those of the texts that the event gives through it
abbrev pub IsCodedKind : Frame → List BlockCode → Kind → Option Stretch → Type 0
IsCodedKind fr coded (kind.Atom a) slot = IsCoded fr coded a slot
IsCodedKind fr coded _ slot = Unit {0}

-- its codes ascend
abbrev pub HasAscending : List BlockCode → Option Stretch → Type 0
HasAscending coded None = Unit {0}
HasAscending coded (Some r) = AscendFrom 0 (code_list_literals (items_of r coded))

-- the row of an atom that has these codes
abbrev pub slot_update : List BlockCode → Option Stretch → Update
slot_update coded None = one_row Zero
slot_update coded (Some r) = one_row (cube_tree (code_list_literals (items_of r coded)))
