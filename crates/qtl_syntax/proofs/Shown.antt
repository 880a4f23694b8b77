-- The tokens of the canonical text.
use Rattle.std.specs.Prelude.{List, [], ◌∷◌, ◌++◌, Bool, true, false, decimal}
use Rattle.qtl_syntax.specs.declared.formula.Term.{Term}
use Rattle.qtl_syntax.specs.declared.formula.Term.TheVariants.{Variable, Constant}
use Rattle.qtl_syntax.specs.declared.formula.Bound.{Bound}
use Rattle.qtl_syntax.specs.declared.formula.Bound.TheVariants as bound
use Rattle.qtl_syntax.specs.declared.token.Word.TheVariants as word
use Rattle.qtl_syntax.specs.declared.token.Sign.TheVariants as sign
use Rattle.qtl_syntax.specs.declared.token.Token.{Token}
use Rattle.qtl_syntax.specs.declared.token.Token.TheVariants.{Name, Quoted, Number, Word, Sign}
use Rattle.qtl_syntax.specs.Tree.{Text, Formula, True, False, Atom, Not, And, Or, Implies, Iff, Prev, Since, TimedSince, Once, TimedOnce, Always, TimedAlways, Interval, Exists, Forall, Item, Pred, Prop}
use Rattle.qtl_syntax.specs.Canonical.{is_plain}

abbrev pub shown_term : Term → Token
shown_term (Variable x) = Name x
shown_term (Constant c) = Quoted c

abbrev pub shown_more : List Term → List Token
shown_more [] = []
shown_more (t ∷ ts) = Sign sign.Comma ∷ shown_term t ∷ shown_more ts

abbrev pub shown_atom : Text → List Term → List Token
shown_atom n [] = Name n ∷ []
shown_atom n (t ∷ ts) = Name n ∷ Sign sign.LeftParen ∷ ((shown_term t ∷ shown_more ts) ++ Sign sign.RightParen ∷ [])

abbrev pub shown_bound : Bound → List Token
shown_bound (bound.AtMost n) = Sign sign.LeftBracket ∷ Sign sign.AtMost ∷ Number (decimal n) ∷ Sign sign.RightBracket ∷ []
shown_bound (bound.MoreThan n) = Sign sign.LeftBracket ∷ Sign sign.MoreThan ∷ Number (decimal n) ∷ Sign sign.RightBracket ∷ []

abbrev pub in_parens : Bool → List Token → List Token
in_parens true ts = ts
in_parens false ts = Sign sign.LeftParen ∷ (ts ++ Sign sign.RightParen ∷ [])

abbrev pub shown : Formula → List Token
shown True = Word word.True ∷ []
shown False = Word word.False ∷ []
shown (Atom n terms) = shown_atom n terms
shown (Not f) = (Sign sign.Not ∷ []) ++ in_parens (is_plain f) (shown f)
shown (And f g) = in_parens (is_plain f) (shown f) ++ ((Sign sign.And ∷ []) ++ in_parens (is_plain g) (shown g))
shown (Or f g) = in_parens (is_plain f) (shown f) ++ ((Sign sign.Or ∷ []) ++ in_parens (is_plain g) (shown g))
shown (Implies f g) = in_parens (is_plain f) (shown f) ++ ((Sign sign.Implies ∷ []) ++ in_parens (is_plain g) (shown g))
shown (Iff f g) = in_parens (is_plain f) (shown f) ++ ((Sign sign.Iff ∷ []) ++ in_parens (is_plain g) (shown g))
shown (Prev f) = (Sign sign.Prev ∷ []) ++ in_parens (is_plain f) (shown f)
shown (Since f g) = in_parens (is_plain f) (shown f) ++ ((Word word.Since ∷ []) ++ in_parens (is_plain g) (shown g))
shown (TimedSince b f g) = in_parens (is_plain f) (shown f) ++ ((Word word.Since ∷ shown_bound b) ++ in_parens (is_plain g) (shown g))
shown (Once f) = (Word word.Once ∷ []) ++ in_parens (is_plain f) (shown f)
shown (TimedOnce b f) = (Word word.Once ∷ shown_bound b) ++ in_parens (is_plain f) (shown f)
shown (Always f) = (Word word.Always ∷ []) ++ in_parens (is_plain f) (shown f)
shown (TimedAlways b f) = (Word word.Always ∷ shown_bound b) ++ in_parens (is_plain f) (shown f)
shown (Interval f g) = Sign sign.LeftBracket ∷ (shown f ++ Sign sign.Comma ∷ (shown g ++ Sign sign.RightParen ∷ []))
shown (Exists x f) = Word word.Exists ∷ Name x ∷ Sign sign.Dot ∷ shown f
shown (Forall x f) = Word word.Forall ∷ Name x ∷ Sign sign.Dot ∷ shown f

abbrev pub shown_params : List Text → List Token
shown_params [] = []
shown_params (x ∷ xs) = Sign sign.Comma ∷ Name x ∷ shown_params xs

abbrev pub shown_listed : List Text → List Token
shown_listed [] = []
shown_listed (x ∷ xs) = Name x ∷ shown_params xs

abbrev pub shown_head : Item → List Token
shown_head (Prop name f) = Word word.Prop ∷ Name name ∷ Sign sign.Colon ∷ []
shown_head (Pred name params f) = Word word.Pred ∷ Name name ∷ Sign sign.LeftParen ∷ (shown_listed params ++ Sign sign.RightParen ∷ Sign sign.Equals ∷ [])

abbrev pub body_of : Item → Formula
body_of (Prop name f) = f
body_of (Pred name params f) = f

abbrev pub shown_items : List Item → List Token
shown_items [] = []
shown_items (i ∷ items) = shown_head i ++ (shown (body_of i) ++ shown_items items)
