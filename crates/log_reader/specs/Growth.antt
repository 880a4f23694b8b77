-- What the records of a front of a log say of those of the log.
use Rattle.std.specs.Prelude.{◌≡◌, List, ◌++◌}
use Rattle.qtl_truth.specs.declared.event.Event.{Event}
use Rattle.log_reader.specs.Records.{End, Rest, At, Cut}

-- by what comes behind the front's events: where that is nothing, more events may; a fault is that of the whole log
abbrev pub GoesOnBehind : End → Cut → Cut → Type 0
GoesOnBehind Rest front whole = (later : List Event) × (whole.events ≡ front.events ++ later)
GoesOnBehind (At number fault) front whole = whole ≡ front

-- The records of a front of a log, and those of the log: the front's events are the log's first ones, and a fault of the
-- front is the log's, behind the same events.
abbrev pub GoesOn : Cut → Cut → Type 0
GoesOn front whole = GoesOnBehind front.end front whole
