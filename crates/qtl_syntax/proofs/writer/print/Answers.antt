use Rattle.std.proofs.Common.{◌≡◌, ℕ, List, sym, subst, rules}
use Rattle.qtl_syntax.specs.Tree.{Item as TheItem, items_of}
use Rattle.qtl_syntax.specs.Canonical.{canonical}
use Rattle.qtl_syntax.specs.Faults.{SpellsText, ReadsBack}
use Rattle.qtl_syntax.proofs.PrintLaw.{print_spelled, print_only, print_back}
use Rattle.qtl_syntax.proofs.writer.print.Goals as goal

pub returns-clause-spelled : goal.returns-clause-spelled
returns-clause-spelled c =
    let written : c.write_items.new.out.items ≡ canonical (items_of c.args.spec.now) = search rules in
    subst (λ text. (height : ℕ) × SpellsText height text (items_of c.args.spec.now)) (sym written) (print_spelled (items_of c.args.spec.now) c.args.spec.now.lawful)

pub returns-clause-only : goal.returns-clause-only
returns-clause-only c =
    let written : c.write_items.new.out.items ≡ canonical (items_of c.args.spec.now) = search rules in
    subst (λ text. (height : ℕ) (items : List TheItem) → SpellsText height text items → items ≡ items_of c.args.spec.now) (sym written) (print_only (items_of c.args.spec.now) c.args.spec.now.lawful)

pub returns-clause-read_back : goal.returns-clause-read_back
returns-clause-read_back c =
    let written : c.write_items.new.out.items ≡ canonical (items_of c.args.spec.now) = search rules in
    subst (λ text. ReadsBack text (items_of c.args.spec.now)) (sym written) (print_back (items_of c.args.spec.now) c.args.spec.now.lawful)
