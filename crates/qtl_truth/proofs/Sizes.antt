-- A number that falls wherever the evaluator goes on, through the calls of macros too.
use Rattle.std.proofs.Common.{ℕ, ◌+◌, List, [], ◌∷◌}
use Rattle.std.specs.Prelude.{bytes_eq, if◌then◌else◌}
use Rattle.qtl_syntax.specs.Tree.{Text, Formula, True, False, Atom, Not, And, Or, Implies, Iff, Prev, Since, TimedSince, Once, TimedOnce, Always, TimedAlways, Interval, Exists, Forall, Item, Pred, Prop}

-- the nodes of a formula, where calls tells what an atom adds
abbrev pub size_in : (Text → ℕ) → Formula → ℕ
size_in calls True = 1
size_in calls False = 1
size_in calls (Atom name terms) = 1 + calls name
size_in calls (Not f) = 1 + size_in calls f
size_in calls (And f g) = 1 + (size_in calls f + size_in calls g)
size_in calls (Or f g) = 1 + (size_in calls f + size_in calls g)
size_in calls (Implies f g) = 1 + (size_in calls f + size_in calls g)
size_in calls (Iff f g) = 1 + (size_in calls f + size_in calls g)
size_in calls (Prev f) = 1 + size_in calls f
size_in calls (Since f g) = 1 + (size_in calls f + size_in calls g)
size_in calls (TimedSince b f g) = 1 + (size_in calls f + size_in calls g)
size_in calls (Once f) = 1 + size_in calls f
size_in calls (TimedOnce b f) = 1 + size_in calls f
size_in calls (Always f) = 1 + size_in calls f
size_in calls (TimedAlways b f) = 1 + size_in calls f
size_in calls (Interval f g) = 1 + (size_in calls f + size_in calls g)
size_in calls (Exists x f) = 1 + size_in calls f
size_in calls (Forall x f) = 1 + size_in calls f

-- the nodes of the body that an atom calls, and the items that are passed on the way to it
abbrev pub call_size : List Item → Text → ℕ
call_size [] name = 0
call_size (Prop p body ∷ before) name = 1 + call_size before name
call_size (Pred p params body ∷ before) name =
    if bytes_eq p name then size_in (call_size before) body else 1 + call_size before name

abbrev pub size : List Item → Formula → ℕ
size before f = size_in (call_size before) f
