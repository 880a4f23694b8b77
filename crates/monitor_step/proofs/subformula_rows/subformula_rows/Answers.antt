use Rattle.subformulas.specs.declared.table.Kind.TheVariants as kind
use Rattle.monitor_step.specs.Frame.{frame_of, setting_with}
use Rattle.monitor_step.proofs.Rows.Kinds.{kind_ascends, only_temporal, temporal_child}
use Rattle.monitor_step.proofs.subformula_rows.subformula_rows.Goals as goal

pub atom_row-requires-clause-ascending : goal.atom_row-requires-clause-ascending
atom_row-requires-clause-ascending g c =
    kind_ascends (frame_of (setting_with c.args.plan.now c.args.frame.now.bits c.args.store.now.table.room) c.args.frame.now) c.args.kind.now _ c.args.frame.now.coded.now c.args.slot c.in-Atom.is c.requires.coded

pub temporal_rows-requires-clause-temporal : goal.temporal_rows-requires-clause-temporal
temporal_rows-requires-clause-temporal g c =
    let n = c.in_default in
    only_temporal c.args.kind.now n.not-True n.not-False n.not-Atom n.not-Not n.not-And n.not-Or n.not-Implies n.not-Iff n.not-Exists n.not-Forall

pub temporal_rows-requires-clause-left : goal.temporal_rows-requires-clause-left
temporal_rows-requires-clause-left g c = c.requires.left (temporal_child c.args.kind.now (temporal_rows-requires-clause-temporal g c))

pub temporal_rows-requires-clause-memory : goal.temporal_rows-requires-clause-memory
temporal_rows-requires-clause-memory g c = c.requires.memory (temporal_rows-requires-clause-temporal g c)
