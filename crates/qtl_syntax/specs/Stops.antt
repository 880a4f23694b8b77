-- One token more: where it leads, and why it may be refused.
use Rattle.std.specs.Prelude.{◌≡◌, ℕ, ◌≤◌, Some, None, true, false, nat_le}
use Rattle.std.specs.Option.{option_map}
use Rattle.qtl_syntax.specs.declared.token.Token.{Token}
use Rattle.qtl_syntax.specs.declared.read.ReadEnd.{ReadEnd}
use Rattle.qtl_syntax.specs.declared.read.ReadEnd.TheVariants.{Syntax, TooDeep, BoundTooLarge, NoMemory}
use Rattle.qtl_syntax.specs.Reading.{Place, next_place, least_of}
use Rattle.qtl_syntax.specs.Judge.{is_large}

-- the token leads from one place to the other
pub record StepsTo (p : Place) (t : Token) (q : Place) : Type 0 where
  pub next : next_place p t ≡ Some q
  pub small : is_large p.spot t ≡ false
  pub low : least_of q ≤ 256

-- the token at this place is refused so; want of memory is free
abbrev pub IsStopped : Place → Token → ℕ → ReadEnd → Type 0
IsStopped p t at (Syntax n) = (n ≡ at) × (next_place p t ≡ None)
IsStopped p t at (TooDeep n) = (n ≡ at) × (is_large p.spot t ≡ false) × (option_map (λ q. nat_le (least_of q) 256) (next_place p t) ≡ Some false)
IsStopped p t at (BoundTooLarge n) = (n ≡ at) × (is_large p.spot t ≡ true)
IsStopped p t at NoMemory = Unit {0}
