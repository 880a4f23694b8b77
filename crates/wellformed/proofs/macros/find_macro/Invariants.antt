use Rattle.std.proofs.Common.{◌≡◌, take}
use Rattle.std.specs.Prelude.{None, MatchOption}
use Rattle.qtl_truth.specs.Items.{before_of}
use Rattle.wellformed.specs.Macros.{macro_of, IsMacroAt}
use Rattle.wellformed.proofs.macros.find_macro.Given as goal

abbrev pub invariant-loop-m : goal.invariant-loop-m
invariant-loop-m l = MatchOption l.found (macro_of (before_of (take l.m l.items)) l.name ≡ None) (IsMacroAt l.items l.m l.name)
