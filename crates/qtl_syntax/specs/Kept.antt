-- What the parser keeps, as the state that it stands for.
use Rattle.std.specs.Prelude.{List, [], ◌∷◌}
use Rattle.qtl_syntax.specs.Tree.{formula_of}
use Rattle.qtl_syntax.specs.Machine.{Frame, PrefixOf, BinaryOf, QuantifierOf, ParenOf, FirstOf, SecondOf, Behind, Measured}
use Rattle.qtl_syntax.specs.declared.stack.Stack as rust
use Rattle.qtl_syntax.specs.declared.stack.Stack.TheVariants as code
use Rattle.qtl_syntax.specs.declared.stack.Behind as rust_behind
use Rattle.qtl_syntax.specs.declared.next.Measured as rust_measured

abbrev pub frames_of : rust.Stack → List Frame
frames_of code.Bottom = []
frames_of (code.Prefix' op p rest) = PrefixOf op ∷ frames_of rest
frames_of (code.Binary' op f k p rest) = BinaryOf op (formula_of f) k ∷ frames_of rest
frames_of (code.Quantifier' q x p rest) = QuantifierOf q x ∷ frames_of rest
frames_of (code.Paren' p rest) = ParenOf ∷ frames_of rest
frames_of (code.First' p rest) = FirstOf ∷ frames_of rest
frames_of (code.Second' f k p rest) = SecondOf (formula_of f) k ∷ frames_of rest

abbrev pub behind_of : rust_behind.Behind → Behind
behind_of b = record { frames = frames_of b.stack; formula = formula_of b.formula; height = b.height }

abbrev pub measured_of : rust_measured.Measured → Measured
measured_of m = (formula_of m.formula, m.height)
