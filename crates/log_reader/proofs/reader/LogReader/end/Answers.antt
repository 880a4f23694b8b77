use Rattle.std.proofs.Common.{sym, subst}
use Rattle.log_reader.specs.Standing.{Stands}
use Rattle.log_reader.specs.State.{reading_of}
use Rattle.log_reader.proofs.FeedLemmas.{over}
use Rattle.log_reader.proofs.reader.LogReader.end.Goals as goal

pub returns-clause-stands : goal.returns-clause-stands
returns-clause-stands c = λ bytes s. over bytes (reading_of c.self.inside.state) (subst (Stands bytes) (sym c.self.view_is) s)
