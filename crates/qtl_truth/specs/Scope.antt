-- What the slow evaluator's scopes stand for.
use Rattle.std.specs.Prelude.{[], unwrap_or, IsSome}
use Rattle.std.specs.List.{zip}
use Rattle.qtl_truth.specs.Truth.{Assignment, texts_of}
use Rattle.qtl_truth.specs.declared.scope.Scope.{Scope}
use Rattle.qtl_truth.specs.declared.scope.Scope.TheVariants as code

-- the assignment that a scope stands for
abbrev pub assignment_of : Scope → Assignment
assignment_of (code.Pairs pairs) = pairs.now
assignment_of (code.Call' params terms p outer) = zip params.now (unwrap_or (texts_of (assignment_of outer) terms.now) [])

-- each term of each call has a text
abbrev pub HasTexts : Scope → Type 0
HasTexts (code.Pairs pairs) = Unit {0}
HasTexts (code.Call' params terms p outer) = IsSome (texts_of (assignment_of outer) terms.now) × HasTexts outer
