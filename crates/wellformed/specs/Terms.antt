-- How many terms the atoms of a formula have.
use Rattle.std.specs.Prelude.{◌<◌, length}
use Rattle.wellformed.specs.CoreTree.{CoreFormula, True, False, Atom, Not, And, Or, Implies, Iff, Prev, Since, TimedSince, Once, TimedOnce, Always, TimedAlways, Interval, Exists, Forall}

-- each atom of the formula has fewer than 2^32 terms
abbrev pub HasFewTerms : CoreFormula → Type 0
HasFewTerms True = Unit {0}
HasFewTerms False = Unit {0}
HasFewTerms (Atom a) = length a.terms < 4294967296
HasFewTerms (Not f) = HasFewTerms f
HasFewTerms (And f g) = HasFewTerms f × HasFewTerms g
HasFewTerms (Or f g) = HasFewTerms f × HasFewTerms g
HasFewTerms (Implies f g) = HasFewTerms f × HasFewTerms g
HasFewTerms (Iff f g) = HasFewTerms f × HasFewTerms g
HasFewTerms (Prev f) = HasFewTerms f
HasFewTerms (Since f g) = HasFewTerms f × HasFewTerms g
HasFewTerms (TimedSince b f g) = HasFewTerms f × HasFewTerms g
HasFewTerms (Once f) = HasFewTerms f
HasFewTerms (TimedOnce b f) = HasFewTerms f
HasFewTerms (Always f) = HasFewTerms f
HasFewTerms (TimedAlways b f) = HasFewTerms f
HasFewTerms (Interval f g) = HasFewTerms f × HasFewTerms g
HasFewTerms (Exists v f) = HasFewTerms f
HasFewTerms (Forall v f) = HasFewTerms f
