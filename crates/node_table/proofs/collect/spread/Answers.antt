use Rattle.std.proofs.Common.{◌≡◌, ◌<◌, ◌∙◌, ℕ, List, length, refl, subst, arith, sym, ap}
use Rattle.std.specs.Prelude.{slice_index_or, Some, true}
use Rattle.std.proofs.lemmas.List.{get_or_default}
use Rattle.node_table.specs.declared.node.Node.{Node}
use Rattle.node_table.specs.declared.arrays.Slot.{Slot}
use Rattle.node_table.specs.Arrays.{node_in, slot_at}
use Rattle.node_table.specs.Marks.{has_mark, IsReached, MarksNodes}
use Rattle.node_table.proofs.Marking.{spreads_none, nodes_after, spreads_after, done_after, closed_at_end}
use Rattle.node_table.proofs.Writing.{own_node, node_within, valid_within}
use Rattle.node_table.proofs.collect.spread.Goals as goal

-- the node of a number that waits
waits : (slots : List Slot) (marks waiting : List ℕ) (round at k : ℕ) → IsReached marks waiting round → MarksNodes (node_in slots) marks round → at < length waiting → k ≡ slice_index_or waiting at k
    → (k ≡ slice_index_or waiting at 0) × (node_in slots k ≡ Some (slot_at slots k).node) × (k < length slots)
waits slots marks waiting round at k r nodes l e =
    let is : k ≡ slice_index_or waiting at 0 = e ∙ get_or_default waiting at k 0 l in
    let n = nodes k (subst (λ z. has_mark marks round z ≡ true) (sym is) (r.marked at l)) in
    (is, own_node slots k n.0 n.1, node_within slots k n.0 n.1)

pub loop-at-init : goal.loop-at-init
loop-at-init c = record {
  reached = c.requires.reached;
  rounds = c.requires.rounds;
  nodes = c.requires.nodes;
  spreads = spreads_none (node_in c.args.slots.now) c.requires.well c.args.marks.now c.args.round c.requires.nodes;
  done = record { children = λ j s l. absurd (omega (arith, l)) };
  within = omega arith;
  room = refl;
}

pub bounds-slots-index : goal.bounds-slots-index
bounds-slots-index c =
    let i = c.loop-at.invariant in
    (waits c.args.slots.now c.loop-at.marks c.loop-at.waiting.items c.args.round c.loop-at.at c.index.result.now i.reached i.nodes (omega arith) c.index.ensures).2

pub reach-requires-clause-inside : goal.reach-requires-clause-inside
reach-requires-clause-inside c =
    let i = c.loop-at.invariant in
    let w = waits c.args.slots.now c.loop-at.marks c.loop-at.waiting.items c.args.round c.loop-at.at c.index.result.now i.reached i.nodes (omega arith) c.index.ensures in
    let v = valid_within c.args.slots.now (slot_at c.args.slots.now c.index.result.now).node.low c.requires.leaves (c.requires.well.low c.index.result.now (slot_at c.args.slots.now c.index.result.now).node w.1).0 in
    omega (arith, v)

pub reach-requires-in-loop-at-clause-inside : goal.reach-requires-in-loop-at-clause-inside
reach-requires-in-loop-at-clause-inside c =
    let i = c.loop-at.invariant in
    let w = waits c.args.slots.now c.loop-at.marks c.loop-at.waiting.items c.args.round c.loop-at.at c.index.result.now i.reached i.nodes (omega arith) c.index.ensures in
    let v = valid_within c.args.slots.now (slot_at c.args.slots.now c.index.result.now).node.high c.requires.leaves (c.requires.well.high c.index.result.now (slot_at c.args.slots.now c.index.result.now).node w.1).0 in
    omega (arith, v)

pub loop-at-preserved : goal.loop-at-preserved
loop-at-preserved c =
    let i = c.loop-at.invariant in
    let f = node_in c.args.slots.now in
    let s : Node = (slot_at c.args.slots.now c.index.result.now).node in
    let within : c.loop-at.at < length c.loop-at.waiting.items = omega arith in
    let w = waits c.args.slots.now c.loop-at.marks c.loop-at.waiting.items c.args.round c.loop-at.at c.index.result.now i.reached i.nodes within c.index.ensures in
    let node : f (slice_index_or c.loop-at.waiting.items c.loop-at.at 0) ≡ Some s = ap f (sym w.0) ∙ w.1 in
    let a = c.reach.ensures in let b = c.reach-in-loop-at.ensures in
    record {
      reached = b.reached;
      rounds = b.rounds;
      nodes = nodes_after f c.requires.well c.args.marks.now c.loop-at.marks c.reach.new.marks c.reach-in-loop-at.new.marks c.loop-at.waiting.items c.reach.new.waiting.items c.reach-in-loop-at.new.waiting.items c.args.round c.loop-at.at s i.reached b.reached within node i.nodes i.spreads i.done a.reached a.reaches b.reaches a.before b.before a.longer;
      spreads = spreads_after f c.requires.well c.args.marks.now c.loop-at.marks c.reach.new.marks c.reach-in-loop-at.new.marks c.loop-at.waiting.items c.reach.new.waiting.items c.reach-in-loop-at.new.waiting.items c.args.round c.loop-at.at s i.reached b.reached within node i.nodes i.spreads i.done a.reached a.reaches b.reaches a.before b.before a.longer;
      done = done_after f c.requires.well c.args.marks.now c.loop-at.marks c.reach.new.marks c.reach-in-loop-at.new.marks c.loop-at.waiting.items c.reach.new.waiting.items c.reach-in-loop-at.new.waiting.items c.args.round c.loop-at.at s i.reached b.reached within node i.nodes i.spreads i.done a.reached a.reaches b.reaches a.before b.before a.longer;
      within = omega (arith, within, a.longer, b.longer);
      room = b.room ∙ a.room ∙ i.room;
    }

pub returns-clause-closed : goal.returns-clause-closed
returns-clause-closed c =
    let i = c.loop-at.invariant in
    closed_at_end (node_in c.args.slots.now) c.requires.well c.loop-at.marks c.loop-at.waiting.items c.args.round c.loop-at.at i.reached i.done (omega arith)
