use Rattle.std.proofs.Common.{◌≡◌, suc, ◌+◌, ◌-◌, ◌∙◌, arith, rules, refl, sym, ap, subst}
use Rattle.node_tree.specs.Tree.{Zero, join}
use Rattle.node_table.specs.Table.{tree_of}
use Rattle.bdd_ops.specs.Applied.{Makes}
use Rattle.bdd_ops.proofs.Growing.{grows_none}
use Rattle.bdd_ops.proofs.Stages.{made_ok}
use Rattle.bdd_ops.proofs.Cubes.{part_err, part_made}
use Rattle.timed_bits.specs.Changes.{chain}
use Rattle.timed_bits.proofs.Spelling.{half_is, low_joins, high_joins, low_part, high_part, small_high}
use Rattle.timed_bits.proofs.chain.+make_chain.Goals as goal

pub returns-then-width-eq0-clause-made : goal.returns-then-width-eq0-clause-made
returns-then-width-eq0-clause-made t c =
    let e : chain c.args.level 0 c.args.number ≡ chain c.args.level c.args.width c.args.number = ap (λ w. chain c.args.level w c.args.number) (sym c.if-width-eq0.true) in
    made_ok c.args.store.now.table c.args.store.now.table (chain c.args.level c.args.width c.args.number) c.leaf_in.result c.leaf_in.ensures.valid (c.leaf_in.ensures.tree ∙ e)
    (grows_none c.args.store.now.table (chain c.args.level c.args.width c.args.number) c.live-held.ensures.shared)

pub make_chain-requires : goal.make_chain-requires
make_chain-requires t c =
    let w : c.args.width ≡ suc (c.args.width - 1) = omega arith in
    let h = half_is (c.args.width - 1) c.args.width c.half-top.result w c.half-top.ensures in (omega arith, (omega arith, (omega arith, omega (arith, h))))

pub make_chain-requires-else-number-top : goal.make_chain-requires-else-number-top
make_chain-requires-else-number-top t c =
    let w : c.args.width ≡ suc (c.args.width - 1) = omega arith in
    (omega arith, (omega arith, (omega arith, small_high (c.args.width - 1) c.args.width c.half-top.result c.args.number w c.half-top.ensures c.if-number-top.false c.requires.number)))

pub returns-in_err-low-clause-made : goal.returns-in_err-low-clause-made
returns-in_err-low-clause-made t c =
    let w : c.args.width ≡ suc (c.args.width - 1) = omega arith in
    part_err (chain (c.args.level + 1) (c.args.width - 1) c.args.number) (chain c.args.level c.args.width c.args.number) c.args.store.now.table c.make_chain.new.store.table c.make_chain.result _
    (low_part (c.args.width - 1) c.args.width c.args.level c.half-top.result c.args.number w c.half-top.ensures c.if-number-top.true) c.live-held.ensures.shared (rw c.in_err-low.was refl) (search rules) c.make_chain.ensures.made

pub returns-in_err-high-clause-made : goal.returns-in_err-high-clause-made
returns-in_err-high-clause-made t c =
    let w : c.args.width ≡ suc (c.args.width - 1) = omega arith in
    part_err (chain (c.args.level + 1) (c.args.width - 1) (c.args.number - c.half-top.result)) (chain c.args.level c.args.width c.args.number) c.args.store.now.table c.make_chain-else-number-top.new.store.table c.make_chain-else-number-top.result _
    (high_part (c.args.width - 1) c.args.width c.args.level c.half-top.result c.args.number w c.half-top.ensures c.if-number-top.false) c.live-held.ensures.shared (rw c.in_err-high.was refl) (search rules) c.make_chain-else-number-top.ensures.made

pub returns-in_ok-low-clause-made : goal.returns-in_ok-low-clause-made
returns-in_ok-low-clause-made t c =
    let w : c.args.width ≡ suc (c.args.width - 1) = omega arith in
    let m = c.make_chain.ensures.made in
    let made = subst (Makes (chain (c.args.level + 1) (c.args.width - 1) c.args.number) c.args.store.now.table c.make_chain.new.store.table) c.in_ok-low.was m in
    let z : tree_of c.make_chain.new.store.table c.leaf_in-zero.result ≡ Zero = (m.grows.keeps.trees c.leaf_in-zero.result c.leaf_in-zero.ensures.valid).1 ∙ c.leaf_in-zero.ensures.tree in
    let e : join c.args.level (tree_of c.make_chain.new.store.table c.in_ok-low.low) (tree_of c.make_chain.new.store.table c.leaf_in-zero.result) ≡ chain c.args.level c.args.width c.args.number =
    low_joins (c.args.width - 1) c.args.width c.args.level c.half-top.result c.args.number (tree_of c.make_chain.new.store.table c.in_ok-low.low) (tree_of c.make_chain.new.store.table c.leaf_in-zero.result) w c.half-top.ensures c.if-number-top.true made.is z in
    part_made (chain (c.args.level + 1) (c.args.width - 1) c.args.number) (chain c.args.level c.args.width c.args.number) c.args.store.now.table c.make_chain.new.store.table c.make.new.self.table c.in_ok-low.low c.make.result
    (low_part (c.args.width - 1) c.args.width c.args.level c.half-top.result c.args.number w c.half-top.ensures c.if-number-top.true) made
    (subst (λ y. Makes y c.make_chain.new.store.table c.make.new.self.table c.make.result) e c.make.ensures.made)

pub returns-in_ok-high-clause-made : goal.returns-in_ok-high-clause-made
returns-in_ok-high-clause-made t c =
    let w : c.args.width ≡ suc (c.args.width - 1) = omega arith in
    let m = c.make_chain-else-number-top.ensures.made in
    let made = subst (Makes (chain (c.args.level + 1) (c.args.width - 1) (c.args.number - c.half-top.result)) c.args.store.now.table c.make_chain-else-number-top.new.store.table) c.in_ok-high.was m in
    let z : tree_of c.make_chain-else-number-top.new.store.table c.leaf_in-zero.result ≡ Zero = (m.grows.keeps.trees c.leaf_in-zero.result c.leaf_in-zero.ensures.valid).1 ∙ c.leaf_in-zero.ensures.tree in
    let e : join c.args.level (tree_of c.make_chain-else-number-top.new.store.table c.leaf_in-zero.result) (tree_of c.make_chain-else-number-top.new.store.table c.in_ok-high.high) ≡ chain c.args.level c.args.width c.args.number =
    high_joins (c.args.width - 1) c.args.width c.args.level c.half-top.result c.args.number (tree_of c.make_chain-else-number-top.new.store.table c.in_ok-high.high) (tree_of c.make_chain-else-number-top.new.store.table c.leaf_in-zero.result) w c.half-top.ensures c.if-number-top.false made.is z in
    part_made (chain (c.args.level + 1) (c.args.width - 1) (c.args.number - c.half-top.result)) (chain c.args.level c.args.width c.args.number) c.args.store.now.table c.make_chain-else-number-top.new.store.table c.make-else-number-top.new.self.table c.in_ok-high.high c.make-else-number-top.result
    (high_part (c.args.width - 1) c.args.width c.args.level c.half-top.result c.args.number w c.half-top.ensures c.if-number-top.false) made
    (subst (λ y. Makes y c.make_chain-else-number-top.new.store.table c.make-else-number-top.new.self.table c.make-else-number-top.result) e c.make-else-number-top.ensures.made)
