-- What a specification may hold: names of the language, constants that can stand in quotes, and bounds of at most 1,048,574.
use Rattle.std.specs.Prelude.{List, Bool, true, ◌&&◌, nat_le}
use Rattle.std.specs.List.{list_all}
use Rattle.qtl_syntax.specs.declared.formula.Term.{Term}
use Rattle.qtl_syntax.specs.declared.formula.Term.TheVariants.{Variable, Constant}
use Rattle.qtl_syntax.specs.declared.formula.Bound.{Bound}
use Rattle.qtl_syntax.specs.declared.formula.Bound.TheVariants.{AtMost, MoreThan}
use Rattle.qtl_syntax.specs.Cuts.{is_name, is_quotable}
use Rattle.qtl_syntax.specs.Shape.{Formula, True, False, Atom, Not, And, Or, Implies, Iff, Prev, Since, TimedSince, Once, TimedOnce, Always, TimedAlways, Interval, Exists, Forall, Item, Pred, Prop}

-- at most 1,048,574
abbrev pub is_lawful_bound : Bound → Bool
is_lawful_bound (AtMost n) = nat_le n 1048574
is_lawful_bound (MoreThan n) = nat_le n 1048574

-- a name, or a text that can stand in quotes
abbrev pub is_lawful_term : Term → Bool
is_lawful_term (Variable x) = is_name x
is_lawful_term (Constant c) = is_quotable c

-- all names, terms and bounds of the formula are lawful
abbrev pub is_lawful_formula : Formula → Bool
is_lawful_formula True = true
is_lawful_formula False = true
is_lawful_formula (Atom name terms) = is_name name && list_all is_lawful_term terms
is_lawful_formula (Not f) = is_lawful_formula f
is_lawful_formula (And f g) = is_lawful_formula f && is_lawful_formula g
is_lawful_formula (Or f g) = is_lawful_formula f && is_lawful_formula g
is_lawful_formula (Implies f g) = is_lawful_formula f && is_lawful_formula g
is_lawful_formula (Iff f g) = is_lawful_formula f && is_lawful_formula g
is_lawful_formula (Prev f) = is_lawful_formula f
is_lawful_formula (Since f g) = is_lawful_formula f && is_lawful_formula g
is_lawful_formula (TimedSince b f g) = is_lawful_bound b && (is_lawful_formula f && is_lawful_formula g)
is_lawful_formula (Once f) = is_lawful_formula f
is_lawful_formula (TimedOnce b f) = is_lawful_bound b && is_lawful_formula f
is_lawful_formula (Always f) = is_lawful_formula f
is_lawful_formula (TimedAlways b f) = is_lawful_bound b && is_lawful_formula f
is_lawful_formula (Interval f g) = is_lawful_formula f && is_lawful_formula g
is_lawful_formula (Exists x f) = is_name x && is_lawful_formula f
is_lawful_formula (Forall x f) = is_name x && is_lawful_formula f

-- so are all of the item
abbrev pub is_lawful_item : Item → Bool
is_lawful_item (Prop name body) = is_name name && is_lawful_formula body
is_lawful_item (Pred name params body) = is_name name && (list_all is_name params && is_lawful_formula body)

-- and of all items
abbrev pub are_lawful : List Item → Bool
are_lawful items = list_all is_lawful_item items
