use Rattle.std.proofs.Common.{subst}
use Rattle.value_codes.specs.Pairs.{IsBook}
use Rattle.value_codes.proofs.Kept.{is_book}
use Rattle.value_codes.proofs.book.Book.free_count.Goals as goal

pub returns-clause-sound : goal.returns-clause-sound
returns-clause-sound c = subst (λ b. IsBook b) c.self.view_is (is_book c.self.inside.bits c.self.inside.codes.entries c.self.inside.places.items c.self.inside.hint c.self.invariant)
