-- Formulas without quantifiers, whose truth can be found by looking at the log alone.
use Rattle.std.specs.Prelude.{List, [], ◌∷◌}
use Rattle.qtl_syntax.specs.Tree.{Formula, True, False, Atom, Not, And, Or, Implies, Iff, Prev, Since, TimedSince, Once, TimedOnce, Always, TimedAlways, Interval, Exists, Forall, Item, Pred, Prop}

-- no `exists` and no `forall` stands in the formula
abbrev pub HasNoQuantifier : Formula → Type 0
HasNoQuantifier True = Unit {0}
HasNoQuantifier False = Unit {0}
HasNoQuantifier (Atom name terms) = Unit {0}
HasNoQuantifier (Not f) = HasNoQuantifier f
HasNoQuantifier (And f g) = HasNoQuantifier f × HasNoQuantifier g
HasNoQuantifier (Or f g) = HasNoQuantifier f × HasNoQuantifier g
HasNoQuantifier (Implies f g) = HasNoQuantifier f × HasNoQuantifier g
HasNoQuantifier (Iff f g) = HasNoQuantifier f × HasNoQuantifier g
HasNoQuantifier (Prev f) = HasNoQuantifier f
HasNoQuantifier (Since f g) = HasNoQuantifier f × HasNoQuantifier g
HasNoQuantifier (TimedSince b f g) = HasNoQuantifier f × HasNoQuantifier g
HasNoQuantifier (Once f) = HasNoQuantifier f
HasNoQuantifier (TimedOnce b f) = HasNoQuantifier f
HasNoQuantifier (Always f) = HasNoQuantifier f
HasNoQuantifier (TimedAlways b f) = HasNoQuantifier f
HasNoQuantifier (Interval f g) = HasNoQuantifier f × HasNoQuantifier g
HasNoQuantifier (Exists x f) = ⊥
HasNoQuantifier (Forall x f) = ⊥

-- no body of a macro among the items has one
abbrev pub MacrosHaveNoQuantifier : List Item → Type 0
MacrosHaveNoQuantifier [] = Unit {0}
MacrosHaveNoQuantifier (Prop name body ∷ before) = MacrosHaveNoQuantifier before
MacrosHaveNoQuantifier (Pred name params body ∷ before) = HasNoQuantifier body × MacrosHaveNoQuantifier before
