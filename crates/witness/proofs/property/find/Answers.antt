use Rattle.std.proofs.Common.{◌≡◌, ◌∙◌, ap, subst, Some, arith, ◌++◌}
use Rattle.std.specs.Prelude.{slice_get}
use Rattle.std.specs.Option.{option_map}
use Rattle.node_table.specs.Table.{tree_of}
use Rattle.subformulas.specs.Table.{Table}
use Rattle.subformulas.specs.Unfolded.{formula_at}
use Rattle.report.specs.Witness.{chain}
use Rattle.witness.specs.Finding.{row_below, shown_over}
use Rattle.witness.proofs.Showing.Holding.{first_turns, found_is}
use Rattle.witness.proofs.property.find.Goals as goal

pub show_chain-requires-clause-turns : goal.show_chain-requires-clause-turns
show_chain-requires-clause-turns g c =
    let m = c.args.monitor.now in
    let at = subst (λ (t : Table). option_map (λ q. q.root) (slice_get t.props c.args.p) ≡ Some c.root-root.result) c.plan.ensures c.root-root.ensures in
    let is = subst (λ (t : Table). c.below-body.result ≡ row_below t.subs c.root-root.result c.root-root.result) c.plan-2.ensures (c.below-body.ensures.is c.root-root.result (omega arith)) in
    first_turns m c.is_live-live.ensures.sound.plan c.args.p c.root-root.result c.below-body.result (tree_of m.shelf.table c.now-tree.result) at is
    (c.now-tree.ensures.shape (c.is_live-live.ensures.judged c.requires.some))

pub returns-clause-witness : goal.returns-clause-witness
returns-clause-witness g c = λ log is_log stands.
    let m = c.args.monitor.now in
    let tree = tree_of m.shelf.table c.now-tree.result in
    let at = subst (λ (t : Table). option_map (λ q. q.root) (slice_get t.props c.args.p) ≡ Some c.root-root.result) c.plan.ensures c.root-root.ensures in
    let is = subst (λ (t : Table). c.below-body.result ≡ row_below t.subs c.root-root.result c.root-root.result) c.plan-2.ensures (c.below-body.ensures.is c.root-root.result (omega arith)) in
    found_is c.witnesses_hold.ensures m log c.is_live-live.ensures.sound (c.is_live-live.ensures.alive (c.is_live-live.ensures.is ∙ c.requires.live)) is_log stands
    (c.is_live-live.ensures.judged c.requires.some) c.args.p c.root-root.result c.below-body.result tree c.show_chain.new.shown.items at c.requires.fails is c.now-tree.ensures.tree
    (c.in_ok-show_chain.ensures.shown ∙ ap (λ xs. xs ++ shown_over m (chain (formula_at m.plan.subs c.root-root.result)) tree) c.new-shown.ensures.items)
