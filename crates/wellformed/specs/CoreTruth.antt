-- What is true of a log, for formulas without macros. nu has a text for each variable, by number.
use Rattle.std.specs.Prelude.{◌-◌, ◌<◌, ◌⊎◌, ◌↔◌, List, set}
use Rattle.qtl_syntax.specs.Tree.{Text}
use Rattle.qtl_truth.specs.declared.event.Event.{Event}
use Rattle.qtl_truth.specs.Truth.{IsText, Claim, IsWithin, SomeTime, EachTime, After, NeverFrom, SinceThen}
use Rattle.qtl_truth.specs.NumberedAtom.{AtomHolds}
use Rattle.wellformed.specs.CoreTree.{CoreFormula, True, False, Atom, Not, And, Or, Implies, Iff, Prev, Since, TimedSince, Once, TimedOnce, Always, TimedAlways, Interval, Exists, Forall}

abbrev pub TrueCore : List Event → List Text → CoreFormula → Claim
TrueCore log nu True i = Unit {0}
TrueCore log nu False i = ⊥
TrueCore log nu (Atom a) i = AtomHolds log nu a i
TrueCore log nu (Not f) i = ¬ TrueCore log nu f i
TrueCore log nu (And f g) i = TrueCore log nu f i × TrueCore log nu g i
TrueCore log nu (Or f g) i = TrueCore log nu f i ⊎ TrueCore log nu g i
TrueCore log nu (Implies f g) i = TrueCore log nu f i → TrueCore log nu g i
TrueCore log nu (Iff f g) i = TrueCore log nu f i ↔ TrueCore log nu g i
TrueCore log nu (Exists v f) i = (t : Text) × IsText t × TrueCore log (set nu v t) f i
TrueCore log nu (Forall v f) i = (t : Text) → IsText t → TrueCore log (set nu v t) f i
TrueCore log nu (Prev f) i = (1 < i) × TrueCore log nu f (i - 1)
TrueCore log nu (Since f g) i = SinceThen (TrueCore log nu f) (TrueCore log nu g) i
TrueCore log nu (TimedSince b f g) i =
    SomeTime (λ j. IsWithin b log i j × TrueCore log nu g j × After j (TrueCore log nu f) i) i
TrueCore log nu (Once f) i = SomeTime (TrueCore log nu f) i
TrueCore log nu (TimedOnce b f) i = SomeTime (λ j. IsWithin b log i j × TrueCore log nu f j) i
TrueCore log nu (Always f) i = EachTime (TrueCore log nu f) i
TrueCore log nu (TimedAlways b f) i = EachTime (λ j. IsWithin b log i j → TrueCore log nu f j) i
TrueCore log nu (Interval f g) i = SomeTime (λ j. TrueCore log nu f j × NeverFrom j (TrueCore log nu g) i) i
