use Rattle.std.proofs.Common.{◌≡◌, suc, ◌-◌, true, false, ap, sym, ◌∙◌, arith}
use Rattle.std.proofs.lemmas.Bool.Decides.{Decides-eqb}
use Rattle.node_tree.specs.Tree.{Zero}
use Rattle.node_table.specs.Table.{tree_of}
use Rattle.timed_bits.proofs.Spelling.{chain_high, chain_low, number_high}
use Rattle.timed_bits.proofs.chain.+read_chain.Goals as goal

pub read_chain-requires : goal.read_chain-requires
read_chain-requires g t c κs within =
    let w : c.args.width ≡ suc (c.args.width - 1) = omega arith in
    let same : c.in_Node-low.low ≡ c.zero.result = (Decides-eqb c.in_Node-low.low c.zero.result).0 (sym c.eq.ensures ∙ c.if-eq.true) in
    let z : tree_of c.args.table.now c.in_Node-low.low ≡ Zero = ap (tree_of c.args.table.now) same ∙ c.zero.ensures.tree in
    (omega arith, (within, (omega arith, (c.in_Node-low.ensures.tells.2, chain_high (c.args.width - 1) c.args.width c.in_Node-low.level (tree_of c.args.table.now c.args.h) (tree_of c.args.table.now c.in_Node-low.low) (tree_of c.args.table.now c.in_Node-low.high) w c.requires.chain c.in_Node-low.ensures.tells.0 z))))

pub read_chain-requires-else-eq : goal.read_chain-requires-else-eq
read_chain-requires-else-eq g t c κs within =
    let w : c.args.width ≡ suc (c.args.width - 1) = omega arith in (
      omega arith,
      (
        within,
        (
          omega arith,
          (
            c.in_Node-low.ensures.tells.1,
            chain_low (c.args.width - 1) c.args.width c.in_Node-low.level (tree_of c.args.table.now c.args.h) (tree_of c.args.table.now c.in_Node-low.low) (tree_of c.args.table.now c.in_Node-low.high) w c.requires.chain c.in_Node-low.ensures.tells.0
                (λ z.
                (let same : c.in_Node-low.low ≡ c.zero.result = c.branch-low.ensures.shared.one_handle c.in_Node-low.low c.zero.result c.in_Node-low.ensures.tells.1 c.zero.ensures.valid (z ∙ sym c.zero.ensures.tree) in
                let no : false ≡ true = sym c.if-eq.false ∙ (c.eq.ensures ∙ (Decides-eqb c.in_Node-low.low c.zero.result).1 same) in cc)),
          ),
        ),
      ),
    )

pub returns-then-eq-clause-chain : goal.returns-then-eq-clause-chain
returns-then-eq-clause-chain g t c =
    let w : c.args.width ≡ suc (c.args.width - 1) = omega arith in
    let same : c.in_Node-low.low ≡ c.zero.result = (Decides-eqb c.in_Node-low.low c.zero.result).0 (sym c.eq.ensures ∙ c.if-eq.true) in
    let z : tree_of c.args.table.now c.in_Node-low.low ≡ Zero = ap (tree_of c.args.table.now) same ∙ c.zero.ensures.tree in
    λ first n small e. number_high (c.args.width - 1) c.args.width c.in_Node-low.level c.half.result c.read_chain.result first n (tree_of c.args.table.now c.args.h) (tree_of c.args.table.now c.in_Node-low.low) (tree_of c.args.table.now c.in_Node-low.high) w c.half.ensures small c.in_Node-low.ensures.tells.0 z e c.read_chain.ensures.chain
