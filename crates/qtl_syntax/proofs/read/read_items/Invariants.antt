use Rattle.std.proofs.Common.{◌≤◌}
use Rattle.qtl_syntax.specs.Reading.{least_of}
use Rattle.qtl_syntax.specs.KeptPlace.{place_of}
use Rattle.qtl_syntax.proofs.StopLaw.{StandsAt}
use Rattle.qtl_syntax.proofs.read.read_items.Given as goal

abbrev pub invariant-loop-i : goal.invariant-loop-i
invariant-loop-i l = record { same : StandsAt l.tokens (place_of l.place) l.i; low : least_of (place_of l.place) ≤ 256 }
