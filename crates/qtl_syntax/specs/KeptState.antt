-- The state that the parser's code stands for.
use Rattle.qtl_syntax.specs.Tree.{formula_of}
use Rattle.qtl_syntax.specs.Machine.{Timeable, OnceOf, AlwaysOf, SinceOf, State, Operand, Named, FirstTerm, NextTerm, TermEnd, Whole, OfVariable, OfDot, Bounded, Bracket, OfNumber, BoundEnd}
use Rattle.qtl_syntax.specs.Kept.{frames_of}
use Rattle.qtl_syntax.specs.declared.state.Timeable as rust_timeable
use Rattle.qtl_syntax.specs.declared.state.Timeable.TheVariants as timeable
use Rattle.qtl_syntax.specs.declared.state.State as rust_state
use Rattle.qtl_syntax.specs.declared.state.State.TheVariants as state

abbrev pub timeable_of : rust_timeable.Timeable → Timeable
timeable_of timeable.Once = OnceOf
timeable_of timeable.Always = AlwaysOf
timeable_of (timeable.Since f k) = SinceOf (formula_of f) k

abbrev pub state_of : rust_state.State → State
state_of (state.Operand s) = Operand (frames_of s)
state_of (state.Named s n) = Named (frames_of s) n
state_of (state.FirstTerm s n) = FirstTerm (frames_of s) n
state_of (state.NextTerm s n xs) = NextTerm (frames_of s) n xs
state_of (state.TermEnd s n xs) = TermEnd (frames_of s) n xs
state_of (state.Whole s f k) = Whole (frames_of s) (formula_of f) k
state_of (state.OfVariable s q) = OfVariable (frames_of s) q
state_of (state.OfDot s q x) = OfDot (frames_of s) q x
state_of (state.Bounded s w) = Bounded (frames_of s) (timeable_of w)
state_of (state.Bracket s w) = Bracket (frames_of s) (timeable_of w)
state_of (state.OfNumber s w most) = OfNumber (frames_of s) (timeable_of w) most
state_of (state.BoundEnd s w b) = BoundEnd (frames_of s) (timeable_of w) b
