use Rattle.std.proofs.Common.{ℕ, ◌∙◌, List, length, map, subst, sym, ap}
use Rattle.subformulas.specs.NeedList.{texts_for}
use Rattle.subformulas.specs.declared.need_list.Need.{Need}
use Rattle.subformulas.specs.declared.need_list.Use.{Use}
use Rattle.subformulas.specs.Matched.{AreUsesBelow}
use Rattle.node_table.specs.Table.{tree_of}
use Rattle.monitor_step.specs.Coded.{AreAtomCodes, AreCodes}
use Rattle.monitor_step.specs.Serving.{pairs_at}
use Rattle.monitor_step.proofs.Stepping.Coding.{atoms_coded, needed_once, not_served, uses_coded, uses_within}
use Rattle.monitor_step.proofs.lists.code_event.Goals as goal

pub serve_all-requires-clause-once : goal.serve_all-requires-clause-once
serve_all-requires-clause-once g c = λ x p.
    needed_once c.args.plan.now.subs c.args.event.now c.entries-entries.result.now
    (λ y. ap (texts_for y c.args.event.now.args) c.entries-entries.ensures ∙ c.in_ok-needs.ensures.texts y) x

pub returns-in_err-serve_all-clause-served : goal.returns-in_err-serve_all-clause-served
returns-in_err-serve_all-clause-served g c =
    not_served c.args.plan.now.subs c.args.event.now c.entries-entries.result.now
    (λ y. ap (texts_for y c.args.event.now.args) c.entries-entries.ensures ∙ c.in_ok-needs.ensures.texts y)
    c.args.bits (map (tree_of c.args.store.now.table) c.args.remembered.now) c.args.books.now
    c.serve_all.new.books c.in_err-serve_all.field-0.0 c.in_err-serve_all.ensures.served
    c.from_residual-in_err-serve_all.result c.from_residual-in_err-serve_all.ensures.1

pub code_uses-requires-clause-codes : goal.code_uses-requires-clause-codes
code_uses-requires-clause-codes g c =
    uses_coded (length c.args.books.now) c.args.event.now c.entries-entries.result.now
    (pairs_at c.serve_all.new.books) c.serve_all.new.codes c.in_ok-serve_all.ensures.codes c.uses.result.now
    (subst (λ (us : List Use). AreUsesBelow (length c.args.books.now) c.args.event.now.args c.entries-entries.result.now us) (sym c.uses.ensures)
    (subst (λ (ns : List Need). AreUsesBelow (length c.args.books.now) c.args.event.now.args ns c.needs.new.list.uses) (sym c.entries-entries.ensures)
    (subst (λ (n : ℕ). AreUsesBelow n c.args.event.now.args c.needs.new.list.entries c.needs.new.list.uses) (sym c.requires.count)
    c.in_ok-needs.ensures.uses)))

pub code_uses-requires-clause-blocks : goal.code_uses-requires-clause-blocks
code_uses-requires-clause-blocks g c =
    uses_within (length c.args.plan.now.variables) c.args.event.now c.needs.new.list.entries c.args.bits
    c.count-count.ensures.sound.few_variables c.requires.few_bits c.uses.result.now
    (subst (λ (us : List Use). AreUsesBelow (length c.args.plan.now.variables) c.args.event.now.args c.needs.new.list.entries us)
    (sym c.uses.ensures) c.in_ok-needs.ensures.uses)

pub returns-clause-coded : goal.returns-clause-coded
returns-clause-coded g c =
    let n = length c.args.plan.now.variables in
    let codes : AreCodes n c.args.event.now c.needs.new.list.entries (pairs_at c.serve_all.new.books) c.serve_all.new.codes =
    subst (λ (k : ℕ). AreCodes k c.args.event.now c.needs.new.list.entries (pairs_at c.serve_all.new.books) c.serve_all.new.codes) c.requires.count
    (subst (λ (ns : List Need). AreCodes (length c.args.books.now) c.args.event.now ns (pairs_at c.serve_all.new.books) c.serve_all.new.codes) c.entries-entries.ensures
    c.in_ok-serve_all.ensures.codes) in
    let atoms : AreAtomCodes c.args.bits c.serve_all.new.codes c.needs.new.list.uses c.code_uses.new.coded.items =
    subst (λ (us : List Use). AreAtomCodes c.args.bits c.serve_all.new.codes us c.code_uses.new.coded.items) c.uses.ensures
    c.in_ok-code_uses.ensures.coded in
    atoms_coded c.args.bits n c.args.plan.now.subs c.args.event.now c.needs.new.list.entries
    c.needs.new.list.uses c.needs.new.list.matched c.serve_all.new.books c.serve_all.new.codes
    c.code_uses.new.coded.items c.in_ok-needs.ensures.matched codes atoms
