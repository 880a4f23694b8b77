use Rattle.std.proofs.Common.{length, ◌-◌, ◌<◌, ◌≤◌, ℕ}
use Rattle.std.specs.Prelude.{IsSome}
use Rattle.value_codes.specs.Places.{place_of}
use Rattle.value_codes.proofs.places.first_free.Given as goal

abbrev pub invariant-loop-code : goal.invariant-loop-code
invariant-loop-code l = record { within : l.code ≤ length l.places; given : (c : ℕ) → l.from ≤ c → c < l.code → IsSome (place_of l.places c) }

abbrev pub decreases-loop-code : goal.decreases-loop-code
decreases-loop-code l = length l.places - l.code
