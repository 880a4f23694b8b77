use Rattle.std.proofs.Common.{◌∙◌, sym, ap, subst, arith, Bool, true, false}
use Rattle.node_table.specs.Table.{tree_of, IsValid}
use Rattle.bdd_ops.proofs.Walks.{down_other}
use Rattle.code_reclaim.proofs.entry.halves_of.Goals as goal

pub returns-else-at-level-2-clause-halves : goal.returns-else-at-level-2-clause-halves
returns-else-at-level-2-clause-halves g c =
    let other = λ (v : Bool).
    down_other c.args.table.now c.args.h c.args.level c.in_Node-at.at c.in_Node-at.low c.in_Node-at.high v c.in_Node-at.ensures.tells c.if-at-level-2.false c.requires.below
    (c.branch-at.ensures.shared.reduced c.args.h c.requires.valid) in
    record {
      some = omega (arith, c.if-bits-eq0.false);
      low_valid = subst (IsValid c.args.table.now) (sym c.both.ensures.low) c.requires.valid;
      high_valid = subst (IsValid c.args.table.now) (sym c.both.ensures.high) c.requires.valid;
      low_tree = ap (tree_of c.args.table.now) c.both.ensures.low ∙ other false;
      high_tree = ap (tree_of c.args.table.now) c.both.ensures.high ∙ other true;
    }
