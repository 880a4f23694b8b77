use Rattle.std.proofs.Common.{◌≡◌, ℕ, List, subst, arith, sym, ⊎_elim}
use Rattle.std.specs.Prelude.{slice_index_or, true}
use Rattle.node_table.specs.Unfold.{is_valid}
use Rattle.node_table.specs.Arrays.{node_in}
use Rattle.node_table.specs.Marks.{IsReached}
use Rattle.node_table.proofs.Unfolds.{found_from_valid}
use Rattle.node_table.proofs.Marking.{reached_none}
use Rattle.node_table.proofs.Writing.{valid_within}
use Rattle.node_table.proofs.collect.mark_trees.Goals as goal

pub reach_all-requires-clause-inside : goal.reach_all-requires-clause-inside
reach_all-requires-clause-inside c = λ j l. (let v = valid_within c.args.slots.now (slice_index_or c.args.roots.now j 0) c.requires.leaves (c.requires.roots j l) in omega (arith, v, c.requires.marked))

pub reach_all-requires-clause-reached : goal.reach_all-requires-clause-reached
reach_all-requires-clause-reached c =
    subst (λ (w : List ℕ). IsReached c.args.marks.now w c.args.round) (sym c.clear.ensures.items) (reached_none c.args.marks.now c.args.round c.requires.started c.requires.none)

pub reach_all-requires-2-clause-inside : goal.reach_all-requires-2-clause-inside
reach_all-requires-2-clause-inside c = λ j l. (let v = valid_within c.args.slots.now (slice_index_or c.args.more.now j 0) c.requires.leaves (c.requires.more j l) in omega (arith, v, c.requires.marked))

pub spread-requires-clause-nodes : goal.spread-requires-clause-nodes
spread-requires-clause-nodes c = λ k e.
    let two = c.reach_all-2.ensures.reached.two k e in
    let first = (reached_none c.args.marks.now c.args.round c.requires.started c.requires.none) in
    ⊎_elim
    (λ p. ⊎_elim
    (λ q. (let l = first.listed k q in absurd (omega (arith, l.1))))
    (λ q. found_from_valid (node_in c.args.slots.now) k two (subst (λ z. is_valid (node_in c.args.slots.now) z ≡ true) (sym q.2) (c.requires.roots q.0 q.1)))
    (c.reach_all.ensures.reaches.only k p))
    (λ q. found_from_valid (node_in c.args.slots.now) k two (subst (λ z. is_valid (node_in c.args.slots.now) z ≡ true) (sym q.2) (c.requires.more q.0 q.1)))
    (c.reach_all-2.ensures.reaches.only k e)
