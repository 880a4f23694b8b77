-- The lines of the judged events, and the violations among them.
use Rattle.std.specs.Prelude.{◌≡◌, ℕ, ◌+◌, ◌/◌, ◌%◌, List, [], ◌∷◌, ◌++◌, ◌||◌, Bool, false, nat_eq, nat_lt}
use Rattle.std.specs.Prelude.{codes, decimal, if◌then◌else◌}
use Rattle.std.specs.List.{flat_map}
use Rattle.qtl_syntax.specs.Tree.{Text}
use Rattle.report.specs.declared.shown.Shown.{Shown}
use Rattle.report.specs.declared.shown.Value.{Value}
use Rattle.report.specs.declared.shown.Value.TheVariants.{Any, Known}
use Rattle.report.specs.Verdicts.{Verdict, True, False}

-- a digit from 0 to f
abbrev pub hex_digit : ℕ → ℕ
hex_digit n = if nat_lt n 10 then 48 + n else 87 + n

-- a byte of a text in quotes
abbrev pub quoted_byte : ℕ → Text
quoted_byte b =
    if nat_eq b 92 || nat_eq b 34 then 92 ∷ b ∷ []
    else if nat_lt b 32 || nat_eq b 127 then codes "\\x"
    ++ (hex_digit (b / 16) ∷ hex_digit (b % 16) ∷ [])
    else b ∷ []

-- what is shown for a variable: a star for any text that the log doesn't have, or a text in quotes
abbrev pub value_text : Value → Text
value_text Any = codes "*"
value_text (Known text) = codes "\"" ++ (flat_map quoted_byte text ++ codes "\"")

-- a witness, each variable behind a space
abbrev pub witness_text : List Shown → Text
witness_text [] = []
witness_text (s ∷ shown) =
    codes " " ++ (s.name ++ (codes "=" ++ (value_text s.value ++ witness_text shown)))

-- the property of this name is false at this event
abbrev pub violation_line : ℕ → Text → List Shown → Text
violation_line event name witness =
    codes "violation "
    ++ (decimal event ++ (codes " " ++ (name ++ (witness_text witness ++ codes "\n"))))

-- the property of this name is true at this event
abbrev pub holds_line : ℕ → Text → Text
holds_line event name =
    codes "holds " ++ (decimal event ++ (codes " " ++ (name ++ codes "\n")))

-- what a verdict writes: a true one only where all are asked for
abbrev pub verdict_text : (all : Bool) → ℕ → Text → Verdict → Text
verdict_text all event name True = if all then holds_line event name else []
verdict_text all event name (False witness) = violation_line event name witness

-- what the verdicts of an event write, property by property
abbrev pub event_lines : (all : Bool) → ℕ → List Text → List Verdict → Text
event_lines all event (name ∷ names) (v ∷ row) =
    verdict_text all event name v ++ event_lines all event names row
event_lines all event _ _ = []

-- the same for all events; the first row is that of this event
abbrev pub report_lines : (all : Bool) → ℕ → List Text → List (List Verdict) → Text
report_lines all event names [] = []
report_lines all event names (row ∷ rows) =
    event_lines all event names row ++ report_lines all (event + 1) names rows

-- Violations

-- a false verdict: its event, the number of its property from 0 on, that one's name, and its line
pub record Told : Type 0 where
  pub event : ℕ
  pub property : ℕ
  pub name : Text
  pub line : Text

abbrev pub told_of : ℕ → ℕ → Text → Verdict → List Told
told_of event property name True = []
told_of event property name (False witness) =
    record {
      event = event;
      property = property;
      name = name;
      line = violation_line event name witness;
    } ∷ []

-- the violations of an event, from this property on
abbrev pub event_violations : ℕ → ℕ → List Text → List Verdict → List Told
event_violations event property (name ∷ names) (v ∷ row) =
    told_of event property name v ++ event_violations event (property + 1) names row
event_violations event property _ _ = []

-- all violations, in order
abbrev pub violations : ℕ → List Text → List (List Verdict) → List Told
violations event names [] = []
violations event names (row ∷ rows) =
    event_violations event 0 names row ++ violations (event + 1) names rows

-- a law: what the verdicts on all events write, where the true ones write nothing, are the lines of
-- the violations, in order
abbrev pub ListsViolations : Type 0
ListsViolations =
    (event : ℕ) (names : List Text) (rows : List (List Verdict)) →
    report_lines false event names rows ≡ flat_map (λ t. t.line) (violations event names rows)
