-- The canonical text of a specification: one line an item, parentheses round each operand that is not plain, and each constant in quotes.
use Rattle.std.specs.Prelude.{List, [], ◌∷◌, ◌++◌, map, Bool, true, false, codes, decimal}
use Rattle.qtl_syntax.specs.declared.formula.Term.{Term}
use Rattle.qtl_syntax.specs.declared.formula.Term.TheVariants.{Variable, Constant}
use Rattle.qtl_syntax.specs.declared.formula.Bound.{Bound}
use Rattle.qtl_syntax.specs.declared.formula.Bound.TheVariants as bound
use Rattle.qtl_syntax.specs.Tree.{Text, Formula, True, False, Atom, Not, And, Or, Implies, Iff, Prev, Since, TimedSince, Once, TimedOnce, Always, TimedAlways, Interval, Exists, Forall, Item, Pred, Prop}

-- true, false, atoms and intervals are plain: they stand as operands without parentheses
abbrev pub is_plain : Formula → Bool
is_plain True = true
is_plain False = true
is_plain (Atom n terms) = true
is_plain (Interval f g) = true
is_plain _ = false

-- each text behind a comma
abbrev pub after_commas : List Text → Text
after_commas [] = []
after_commas (x ∷ xs) = codes "," ++ (x ++ after_commas xs)

-- texts separated by commas alone
abbrev pub listed : List Text → Text
listed [] = []
listed (x ∷ xs) = x ++ after_commas xs

-- a variable by its name, a constant in quotes
abbrev pub term_text : Term → Text
term_text (Variable x) = x
term_text (Constant c) = codes "\"" ++ (c ++ codes "\"")

-- an atom without terms is its name alone
abbrev pub atom_text : Text → List Term → Text
atom_text n [] = n
atom_text n (t ∷ ts) = n ++ (codes "(" ++ (listed (map term_text (t ∷ ts)) ++ codes ")"))

-- a bound without spaces, its number without leading zeros
abbrev pub bound_text : Bound → Text
bound_text (bound.AtMost n) = codes "[<=" ++ (decimal n ++ codes "]")
bound_text (bound.MoreThan n) = codes "[>" ++ (decimal n ++ codes "]")

-- in parentheses, unless it is plain
abbrev pub around : Bool → Text → Text
around true t = t
around false t = codes "(" ++ (t ++ codes ")")

-- a space on each side of a binary sign, and one behind a prefix operator
abbrev pub text_of : Formula → Text
text_of True = codes "true"
text_of False = codes "false"
text_of (Atom n terms) = atom_text n terms
text_of (Not f) = codes "! " ++ around (is_plain f) (text_of f)
text_of (And f g) = around (is_plain f) (text_of f) ++ (codes " & " ++ around (is_plain g) (text_of g))
text_of (Or f g) = around (is_plain f) (text_of f) ++ (codes " | " ++ around (is_plain g) (text_of g))
text_of (Implies f g) = around (is_plain f) (text_of f) ++ (codes " -> " ++ around (is_plain g) (text_of g))
text_of (Iff f g) = around (is_plain f) (text_of f) ++ (codes " <-> " ++ around (is_plain g) (text_of g))
text_of (Prev f) = codes "@ " ++ around (is_plain f) (text_of f)
text_of (Since f g) = around (is_plain f) (text_of f) ++ (codes " S " ++ around (is_plain g) (text_of g))
text_of (TimedSince b f g) = around (is_plain f) (text_of f) ++ ((codes " S" ++ (bound_text b ++ codes " ")) ++ around (is_plain g) (text_of g))
text_of (Once f) = codes "P " ++ around (is_plain f) (text_of f)
text_of (TimedOnce b f) = (codes "P" ++ (bound_text b ++ codes " ")) ++ around (is_plain f) (text_of f)
text_of (Always f) = codes "H " ++ around (is_plain f) (text_of f)
text_of (TimedAlways b f) = (codes "H" ++ (bound_text b ++ codes " ")) ++ around (is_plain f) (text_of f)
text_of (Interval f g) = codes "[" ++ (text_of f ++ (codes "," ++ (text_of g ++ codes ")")))
text_of (Exists x f) = (codes "exists " ++ (x ++ codes " . ")) ++ text_of f
text_of (Forall x f) = (codes "forall " ++ (x ++ codes " . ")) ++ text_of f

-- an item is one line
abbrev pub line_of : Item → Text
line_of (Prop name f) = codes "prop " ++ (name ++ (codes " : " ++ (text_of f ++ codes "\n")))
line_of (Pred name params f) = codes "pred " ++ (name ++ (codes "(" ++ (listed params ++ (codes ") = " ++ (text_of f ++ codes "\n")))))

-- the canonical text
abbrev pub canonical : List Item → Text
canonical [] = []
canonical (i ∷ items) = line_of i ++ canonical items
