use Rattle.std.proofs.Common.{◌≡◌, ◌++◌, drop, take}
use Rattle.std.specs.Option.{option_map}
use Rattle.qtl_syntax.specs.Scan.{to_quote}
use Rattle.qtl_syntax.proofs.fronts.quote_place.Given as goal

abbrev pub invariant-loop-i : goal.invariant-loop-i
invariant-loop-i l = to_quote l.bytes ≡ option_map (λ p. (take l.i l.bytes ++ p.0, p.1)) (to_quote (drop l.i l.bytes))
