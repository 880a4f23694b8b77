use Rattle.wellformed.specs.Clash.{seen_in}
use Rattle.std.proofs.Common.{length, sym, ◌∙◌}
use Rattle.qtl_truth.specs.Items.{before_of}
use Rattle.wellformed.specs.Macros.{macro_of}
use Rattle.wellformed.proofs.Clashes.{atom_added}
use Rattle.wellformed.proofs.clash.atom_clashes.Goals as goal

pub returns-in_ok-insert-in-None : goal.returns-in_ok-insert-in-None
returns-in_ok-insert-in-None c =
    atom_added (seen_in c.args.seen.now) (seen_in c.insert.new.self) (macro_of (before_of c.args.before.now) c.args.name.now) _ c.args.name.now
    (length c.args.terms.now) c.in_ok-copy-in-None.ensures (sym c.is_call.ensures ∙ c.if-is_call.false)
    (sym c.get.ensures.value ∙ sym c.copied.ensures ∙ c.in-None.is) c.in_ok-insert-in-None.ensures.updates.0
