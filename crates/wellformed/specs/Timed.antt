-- Which formulas have a timed operator.
use Rattle.std.specs.Prelude.{Bool, true, false, ◌||◌}
use Rattle.wellformed.specs.CoreTree.{CoreFormula, True, False, Atom, Not, And, Or, Implies, Iff, Prev, Since, TimedSince, Once, TimedOnce, Always, TimedAlways, Interval, Exists, Forall}

-- the formula, or a part of it, is a timed operator
abbrev pub has_timed : CoreFormula → Bool
has_timed True = false
has_timed False = false
has_timed (Atom a) = false
has_timed (Not f) = has_timed f
has_timed (And f g) = has_timed f || has_timed g
has_timed (Or f g) = has_timed f || has_timed g
has_timed (Implies f g) = has_timed f || has_timed g
has_timed (Iff f g) = has_timed f || has_timed g
has_timed (Prev f) = has_timed f
has_timed (Since f g) = has_timed f || has_timed g
has_timed (TimedSince b f g) = true
has_timed (Once f) = has_timed f
has_timed (TimedOnce b f) = true
has_timed (Always f) = has_timed f
has_timed (TimedAlways b f) = true
has_timed (Interval f g) = has_timed f || has_timed g
has_timed (Exists v f) = has_timed f
has_timed (Forall v f) = has_timed f
