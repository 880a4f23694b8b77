use Rattle.std.proofs.Common.{refl}
use Rattle.operation_rows.proofs.Blocks.{block_ok, block_full}
use Rattle.operation_rows.proofs.rows.quantifier_rows.Goals as goal

-- Each answer hands on what quantify_deepest leaves.
-- A quantifier is what quantify makes of its operand, row by row: Quantifies says it of each bit,
-- and block_ok and block_full say the same of the rows of this crate. The operand stays a root all
-- the while, so beside a row stands the row before it alone.
-- What the calls of an edit of this body ask takes the place of these lines in the edit, so that it
-- is refused for what it ensures and not for what it calls: quantifiers_over_the_seen_texts_alone
-- is such an edit, which quantifies over less than the operand.

pub returns-in-Ok-clause-made : goal.returns-in-Ok-clause-made
returns-in-Ok-clause-made g c = rw c.plain.ensures (block_ok c.args.all c.args.block.first c.args.block.bits c.args.h c.args.roots.now c.args.store.now.table c.requires.operand c.quantify_deepest.new.store.table
    c.in-Ok.made c.quantify_deepest.result c.in-Ok.is c.quantify_deepest.ensures.made)

pub returns-in-Err-clause-made : goal.returns-in-Err-clause-made
returns-in-Err-clause-made g c = block_full c.args.all c.args.block.first c.args.block.bits c.args.h c.args.roots.now c.args.store.now.table c.requires.operand c.quantify_deepest.new.store.table
    _ _ c.quantify_deepest.result c.in-Err.is refl c.quantify_deepest.ensures.made
