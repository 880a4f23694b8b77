-- Formulas without macros, and without where they lie in memory. Contracts speak of these.
use Rattle.std.specs.Prelude.{ℕ, List, map}
use Rattle.qtl_syntax.specs.declared.formula.Bound.{Bound}
use Rattle.qtl_syntax.specs.Tree.{Text}
use Rattle.wellformed.specs.declared.core_formula.CoreProp.{CoreProp}
use Rattle.qtl_truth.specs.declared.numbered_atom.Atom as rust_atom
use Rattle.wellformed.specs.declared.core_formula.CoreFormula as rust
use Rattle.wellformed.specs.declared.core_formula.CoreFormula.TheVariants as code

-- a formula without macros, whose variables are numbers
pub data CoreFormula : Type 0 where
  True : CoreFormula
  False : CoreFormula
  Atom : rust_atom.Atom → CoreFormula
  Not : CoreFormula → CoreFormula
  And : CoreFormula → CoreFormula → CoreFormula
  Or : CoreFormula → CoreFormula → CoreFormula
  Implies : CoreFormula → CoreFormula → CoreFormula
  Iff : CoreFormula → CoreFormula → CoreFormula
  Prev : CoreFormula → CoreFormula
  Since : CoreFormula → CoreFormula → CoreFormula
  TimedSince : Bound → CoreFormula → CoreFormula → CoreFormula
  Once : CoreFormula → CoreFormula
  TimedOnce : Bound → CoreFormula → CoreFormula
  Always : CoreFormula → CoreFormula
  TimedAlways : Bound → CoreFormula → CoreFormula
  Interval : CoreFormula → CoreFormula → CoreFormula
  Exists : ℕ → CoreFormula → CoreFormula
  Forall : ℕ → CoreFormula → CoreFormula

-- the formula that the program holds
abbrev pub core_of : rust.CoreFormula → CoreFormula
core_of code.True = True
core_of code.False = False
core_of (code.Atom a) = Atom a
core_of (code.Not' p f) = Not (core_of f)
core_of (code.And' p f q g) = And (core_of f) (core_of g)
core_of (code.Or' p f q g) = Or (core_of f) (core_of g)
core_of (code.Implies' p f q g) = Implies (core_of f) (core_of g)
core_of (code.Iff' p f q g) = Iff (core_of f) (core_of g)
core_of (code.Prev' p f) = Prev (core_of f)
core_of (code.Since' p f q g) = Since (core_of f) (core_of g)
core_of (code.TimedSince' b p f q g) = TimedSince b (core_of f) (core_of g)
core_of (code.Once' p f) = Once (core_of f)
core_of (code.TimedOnce' b p f) = TimedOnce b (core_of f)
core_of (code.Always' p f) = Always (core_of f)
core_of (code.TimedAlways' b p f) = TimedAlways b (core_of f)
core_of (code.Interval' p f q g) = Interval (core_of f) (core_of g)
core_of (code.Exists' v p f) = Exists v (core_of f)
core_of (code.Forall' v p f) = Forall v (core_of f)

-- the names and formulas of the properties that the program holds
abbrev pub props_of : List CoreProp → List (Text × CoreFormula)
props_of props = map (λ p. (p.name, core_of p.root)) props
