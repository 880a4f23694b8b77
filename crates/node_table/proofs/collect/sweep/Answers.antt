use Rattle.std.proofs.Common.{◌≡◌, ◌<◌, ◌+◌, ◌-◌, ℕ, length, length-set, set, subst, arith, sym}
use Rattle.std.specs.Prelude.{slice_index_or}
use Rattle.std.proofs.lemmas.Bool.Decides.{Decides-eqb}
use Rattle.node_table.specs.Arrays.{node_in, chain_in}
use Rattle.node_table.proofs.Sweeping.{Sweeps, sweeps_kept, sweeps_gone, emptied_here, emptied_other, emptied_own, emptied_rest}
use Rattle.node_table.proofs.Rounds.{unequal}
use Rattle.node_table.proofs.collect.sweep.Goals as goal

pub loop-at-preserved-then-marks-at : goal.loop-at-preserved-then-marks-at
loop-at-preserved-then-marks-at c =
    let at : ℕ = c.loop-at.at - 1 in
    let step : c.loop-at.at ≡ at + 1 = omega arith in
    let x = subst (λ n. Sweeps (node_in c.args.slots.now) (node_in c.loop-at.slots) (chain_in c.loop-at.slots) c.args.marks.now c.args.round n c.loop-at.free (length c.loop-at.slots)) step c.loop-at.invariant in
    let fits : at < length c.loop-at.slots = omega (arith, c.loop-at.invariant.within) in
    subst (λ n. Sweeps (node_in c.args.slots.now) (node_in (set c.loop-at.slots at (record { node = record { level = 0; low = 0; high = 0 }; chain = c.loop-at.free }))) (chain_in (set c.loop-at.slots at (record { node = record { level = 0; low = 0; high = 0 }; chain = c.loop-at.free }))) c.args.marks.now c.args.round at at n)
    (sym (length-set c.loop-at.slots at (record { node = record { level = 0; low = 0; high = 0 }; chain = c.loop-at.free })))
    (sweeps_gone (node_in c.args.slots.now) (node_in c.loop-at.slots) (chain_in c.loop-at.slots) c.args.marks.now c.args.round at c.loop-at.free (length c.loop-at.slots) x (omega arith)
    (node_in (set c.loop-at.slots at (record { node = record { level = 0; low = 0; high = 0 }; chain = c.loop-at.free }))) (chain_in (set c.loop-at.slots at (record { node = record { level = 0; low = 0; high = 0 }; chain = c.loop-at.free })))
    (unequal (slice_index_or c.args.marks.now at 0) c.args.round c.if-marks-at.true)
    (emptied_here c.loop-at.slots at c.loop-at.free fits) (emptied_other c.loop-at.slots at c.loop-at.free fits) (emptied_own c.loop-at.slots at c.loop-at.free fits) (emptied_rest c.loop-at.slots at c.loop-at.free fits))

pub loop-at-preserved : goal.loop-at-preserved
loop-at-preserved c =
    let at : ℕ = c.loop-at.at - 1 in
    let step : c.loop-at.at ≡ at + 1 = omega arith in
    let x = subst (λ n. Sweeps (node_in c.args.slots.now) (node_in c.loop-at.slots) (chain_in c.loop-at.slots) c.args.marks.now c.args.round n c.loop-at.free (length c.loop-at.slots)) step c.loop-at.invariant in
    sweeps_kept (node_in c.args.slots.now) (node_in c.loop-at.slots) (chain_in c.loop-at.slots) c.args.marks.now c.args.round at c.loop-at.free (length c.loop-at.slots) x (omega arith)
    c.requires.nodes ((Decides-eqb (slice_index_or c.args.marks.now at 0) c.args.round).1 c.if-marks-at.false)
