use Rattle.std.proofs.Common.{sym, subst, ap, arith}
use Rattle.log_reader.specs.Standing.{Stands}
use Rattle.log_reader.proofs.StateLemmas.{given_most}
use Rattle.log_reader.proofs.reader.LogReader.next.Goals as goal

pub returns-clause-stands : goal.returns-clause-stands
returns-clause-stands c = λ bytes s. (c.next.ensures.sought bytes (subst (Stands bytes) (sym c.self.view_is) s)).stands

pub returns-clause-most : goal.returns-clause-most
returns-clause-most c =
    let given = c.next.ensures.given in
    let same = ap (λ r. r.given) c.self.view_is in
    let most = given_most c.self.inside.state.given c.next.result in
    omega arith
