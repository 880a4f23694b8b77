use Rattle.std.proofs.Common.{rules}
use Rattle.subformulas.proofs.Binding.{no_binding}
use Rattle.subformulas.proofs.Uses.{adds_atom, adds_none}
use Rattle.subformulas.proofs.need_list.add_atom.Goals as goal

pub returns-in-None-clause-added : goal.returns-in-None-clause-added
returns-in-None-clause-added c =
    adds_none c.args.variables c.args.atom.now c.args.event.now c.args.entries.now.items c.args.uses.now.items
    (no_binding c.args.atom.now c.args.event.now (rw c.in-None.is at c.in_ok-matches.ensures.answer))

pub returns-in_ok-add_uses-in-Some-clause-added : goal.returns-in_ok-add_uses-in-Some-clause-added
returns-in_ok-add_uses-in-Some-clause-added c =
    let binds = rw c.in-Some.is at c.in_ok-matches.ensures.answer in
    let added = rw (c.as_slice-args.ensures, c.places.ensures) at c.in_ok-add_uses-in-Some.ensures.added in
    adds_atom c.args.variables c.args.atom.now c.args.event.now c.in-Some.binding binds c.requires.below c.args.entries.now.items c.add_uses.new.entries.items c.args.uses.now.items c.add_uses.new.uses.items
    added (record { from = c.len-from.result; to = c.len-to.result }) (search rules) (search rules)
