use Rattle.std.proofs.Common.{◌≡◌, ◌++◌, length}
use denote.Text.{Utf8}
use denote.Shadow.{shadow}
use Rattle.settings.specs.Asked.{pieces}
use Rattle.settings.proofs.names.pieces_in.Given as goal

abbrev pub invariant-loop-name : goal.invariant-loop-name
invariant-loop-name l = record { utf8 : shadow (Utf8 l.rest); cut : pieces l.fn.value ≡ l.names ++ pieces l.rest }

abbrev pub decreases-loop-name : goal.decreases-loop-name
decreases-loop-name l = length l.rest
