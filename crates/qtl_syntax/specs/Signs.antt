-- The signs of operators in the canonical text, as the writer of it takes them.
use Rattle.std.specs.Prelude.{[], ◌++◌, codes}
use Rattle.qtl_syntax.specs.Tree.{Text, Formula, Not, And, Or, Implies, Iff, Prev, Since, TimedSince, Once, TimedOnce, Always, TimedAlways, Exists, Forall}
use Rattle.qtl_syntax.specs.Canonical.{bound_text}

-- the operator of a formula with its bound or variable, and with its spaces
abbrev pub sign_of : Formula → Text
sign_of (Not f) = codes "! "
sign_of (And f g) = codes " & "
sign_of (Or f g) = codes " | "
sign_of (Implies f g) = codes " -> "
sign_of (Iff f g) = codes " <-> "
sign_of (Prev f) = codes "@ "
sign_of (Since f g) = codes " S "
sign_of (TimedSince b f g) = codes " S" ++ (bound_text b ++ codes " ")
sign_of (Once f) = codes "P "
sign_of (TimedOnce b f) = codes "P" ++ (bound_text b ++ codes " ")
sign_of (Always f) = codes "H "
sign_of (TimedAlways b f) = codes "H" ++ (bound_text b ++ codes " ")
sign_of (Exists x f) = codes "exists " ++ (x ++ codes " . ")
sign_of (Forall x f) = codes "forall " ++ (x ++ codes " . ")
sign_of _ = []
