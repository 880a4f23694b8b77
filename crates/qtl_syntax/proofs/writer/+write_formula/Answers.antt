use Rattle.std.proofs.Common.{ap, inl, inr, ⊎_elim}
use Rattle.qtl_syntax.specs.Tree.{formula_of}
use Rattle.qtl_syntax.proofs.Written.{Joins, binary_written}
use Rattle.qtl_syntax.proofs.writer.+write_formula.Goals as goal

pub returns-in_ok-write_close-in-And-2 : goal.returns-in_ok-write_close-in-And-2
returns-in_ok-write_close-in-And-2 t c =
    let joins : Joins (formula_of c.args.formula.now) (formula_of c.in-And.f.value) (formula_of c.in-And.g.value) =
    ⊎_elim (λ e. inl (ap formula_of e)) (λ x. inr (⊎_elim (λ e. inl (ap formula_of e)) (λ y. inr (⊎_elim (λ e. inl (ap formula_of e)) (λ z. inr (⊎_elim (λ e. inl (ap formula_of e)) (λ w. inr (⊎_elim (λ e. inl (ap formula_of e)) (λ v. inr (v.0, ap formula_of v.1)) w)) z)) y)) x)) c.in-And.is in
    binary_written (formula_of c.args.formula.now) (formula_of c.in-And.f.value) (formula_of c.in-And.g.value) c.args.out.now.items c.write_open.new.out.items c.write_formula-in-And.new.out.items c.write_close.new.out.items
    c.write_sign-in-And.new.out.items c.write_open-in-And.new.out.items c.write_formula-in-And-2.new.out.items c.write_close-in-And.new.out.items joins
    (rw c.deref-in-And.ensures at c.in_ok-write_open-in-And.ensures)
    (rw c.deref-in-And-2.ensures at c.in_ok-write_formula-in-And.ensures)
    (rw c.deref-in-And-3.ensures at c.in_ok-write_close-in-And.ensures)
    c.in_ok-write_sign-in-And.ensures
    (rw c.deref-in-And-4.ensures at c.in_ok-write_open-in-And-2.ensures)
    (rw c.deref-in-And-5.ensures at c.in_ok-write_formula-in-And-2.ensures)
    (rw c.deref-in-And-6.ensures at c.in_ok-write_close-in-And-2.ensures)
