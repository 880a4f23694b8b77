use Rattle.std.proofs.Common.{◌≢◌, ℕ, ◌-◌, ◌^◌, ◌<◌, ◌≤◌, subst, arith, None}
use Rattle.std.proofs.Math.Pow.{pow_mono}
use Rattle.node_table.specs.Table.{tree_of}
use Rattle.value_codes.specs.Pairs.{value_of}
use Rattle.witness.proofs.Splitting.{least_of_block}
use Rattle.witness.proofs.least.least_failing.Goals as goal

pub least_from-requires-clause-codes : goal.least_from-requires-clause-codes
least_from-requires-clause-codes g c = let few : 2 ^ c.args.block.bits ≤ 2 ^ 20 = pow_mono c.requires.width in omega (arith, few)

pub returns-clause-least : goal.returns-clause-least
returns-clause-least g c =
    let book = c.free_count-free.ensures.sound in
    least_of_block c.args.block.first c.args.block.bits (tree_of c.args.table.now c.args.h) c.args.book.now.pairs _ book.paired
    (subst (λ (n : ℕ). (d : ℕ) → value_of c.args.book.now.pairs d ≢ None → d < 2 ^ n - 1) c.requires.codes book.below)
    c.least_from.ensures.least
