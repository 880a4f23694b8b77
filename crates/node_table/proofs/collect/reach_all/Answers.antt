use Rattle.std.proofs.Common.{◌≡◌, ◌∙◌, subst, arith}
use Rattle.std.specs.Prelude.{slice_index_or}
use Rattle.std.proofs.lemmas.List.{get_or_default}
use Rattle.node_table.specs.Marks.{Reaches}
use Rattle.node_table.proofs.Marking.{reaches_more}
use Rattle.node_table.proofs.collect.reach_all.Goals as goal

pub loop-root-preserved : goal.loop-root-preserved
loop-root-preserved c =
    let i = c.loop-root.invariant in
    let e : c.root.inside.number ≡ slice_index_or c.args.roots.now c.loop-root.root-index 0 = c.root.view_is ∙ c.root-item.is ∙ get_or_default c.args.roots.now c.loop-root.root-index c.root-item.result 0 (omega arith) in
    record {
      reached = c.reach.ensures.reached;
      rounds = c.reach.ensures.rounds;
      reaches = reaches_more c.args.marks.now c.loop-root.marks c.reach.new.marks c.args.round c.args.roots.now c.loop-root.root-index i.reaches
          (subst (λ h. Reaches c.loop-root.marks c.reach.new.marks c.args.round h) e c.reach.ensures.reaches);
      room = c.reach.ensures.room ∙ i.room;
    }
