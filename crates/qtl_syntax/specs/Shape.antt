-- Formulas and items without where they lie in memory.
use Rattle.std.specs.Prelude.{ℕ, List}
use Rattle.qtl_syntax.specs.declared.formula.Term.{Term}
use Rattle.qtl_syntax.specs.declared.formula.Bound.{Bound}
use Rattle.qtl_syntax.specs.declared.formula.Formula as rust
use Rattle.qtl_syntax.specs.declared.formula.Formula.TheVariants as code
use Rattle.qtl_syntax.specs.declared.formula.Item as rust_item
use Rattle.qtl_syntax.specs.declared.formula.Item.TheVariants as code_item

-- a string of bytes
abbrev pub Text : Type 0
Text = List ℕ

-- a formula
pub data Formula : Type 0 where
  True : Formula
  False : Formula
  Atom : (name : Text) → (terms : List Term) → Formula
  Not : Formula → Formula
  And : Formula → Formula → Formula
  Or : Formula → Formula → Formula
  Implies : Formula → Formula → Formula
  Iff : Formula → Formula → Formula
  Prev : Formula → Formula
  Since : Formula → Formula → Formula
  TimedSince : Bound → Formula → Formula → Formula
  Once : Formula → Formula
  TimedOnce : Bound → Formula → Formula
  Always : Formula → Formula
  TimedAlways : Bound → Formula → Formula
  Interval : Formula → Formula → Formula
  Exists : Text → Formula → Formula
  Forall : Text → Formula → Formula

-- a macro or a property
pub data Item : Type 0 where
  Pred : (name : Text) → (params : List Text) → (body : Formula) → Item
  Prop : (name : Text) → (body : Formula) → Item

-- the formula that the program holds, wherever its parts lie
abbrev pub formula_of : rust.Formula → Formula
formula_of code.True = True
formula_of code.False = False
formula_of (code.Atom name terms) = Atom name terms
formula_of (code.Not' p f) = Not (formula_of f)
formula_of (code.And' p f q g) = And (formula_of f) (formula_of g)
formula_of (code.Or' p f q g) = Or (formula_of f) (formula_of g)
formula_of (code.Implies' p f q g) = Implies (formula_of f) (formula_of g)
formula_of (code.Iff' p f q g) = Iff (formula_of f) (formula_of g)
formula_of (code.Prev' p f) = Prev (formula_of f)
formula_of (code.Since' p f q g) = Since (formula_of f) (formula_of g)
formula_of (code.TimedSince' b p f q g) = TimedSince b (formula_of f) (formula_of g)
formula_of (code.Once' p f) = Once (formula_of f)
formula_of (code.TimedOnce' b p f) = TimedOnce b (formula_of f)
formula_of (code.Always' p f) = Always (formula_of f)
formula_of (code.TimedAlways' b p f) = TimedAlways b (formula_of f)
formula_of (code.Interval' p f q g) = Interval (formula_of f) (formula_of g)
formula_of (code.Exists' x p f) = Exists x (formula_of f)
formula_of (code.Forall' x p f) = Forall x (formula_of f)

-- the item that the program holds
abbrev pub item_of : rust_item.Item → Item
item_of (code_item.Pred name params body) = Pred name params (formula_of body)
item_of (code_item.Prop name body) = Prop name (formula_of body)
