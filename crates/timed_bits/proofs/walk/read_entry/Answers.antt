use Rattle.std.proofs.Common.{◌≡◌, true, false, sym, ◌∙◌}
use Rattle.std.proofs.lemmas.Bool.Decides.{Decides-eqb}
use Rattle.node_table.specs.Table.{tree_of}
use Rattle.timed_bits.proofs.Taken.{entry_read}
use Rattle.timed_bits.proofs.walk.read_entry.Goals as goal

pub returns-clause-age : goal.returns-clause-age
returns-clause-age g c = entry_read c.args.block.first c.args.block.bits c.read_chain.result (tree_of c.args.table.now c.args.h) c.requires.entry
    (λ z.
    (let same : c.args.h ≡ c.zero.result = c.live-held.ensures.shared.one_handle c.args.h c.zero.result c.requires.valid c.zero.ensures.valid (z ∙ sym c.zero.ensures.tree) in
    let no : false ≡ true = sym c.if-eq.false ∙ (c.eq.ensures ∙ (Decides-eqb c.args.h c.zero.result).1 same) in cc))
    c.read_chain.ensures.chain
