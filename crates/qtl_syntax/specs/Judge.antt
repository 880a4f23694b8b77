-- The parser's whole answer, token by token.
use Rattle.std.specs.Prelude.{ℕ, ◌+◌, List, [], ◌∷◌, Option, Some, None, Bool, true, false, nat_le, nat_lt, if◌then◌else◌}
use Rattle.qtl_syntax.specs.declared.token.Token.{Token}
use Rattle.qtl_syntax.specs.declared.token.Token.TheVariants.{Number}
use Rattle.qtl_syntax.specs.Grammar.{decimal_from}
use Rattle.qtl_syntax.specs.Places.{Refusal, Syntax, TooDeep, BoundTooLarge}
use Rattle.qtl_syntax.specs.Machine.{State, OfNumber}
use Rattle.qtl_syntax.specs.Reading.{Spot, Inside, Place, next_place, Read, ended, least_of}

pub data Verdict : Type 0 where
  Good : Read → Verdict
  Bad : Refusal → ℕ → Verdict

-- the token is the number of a bound, and too large
abbrev pub is_large_at : State → Token → Bool
is_large_at (OfNumber frames w most) (Number t) = nat_lt 1048574 (decimal_from 0 t)
is_large_at _ _ = false

abbrev pub is_large : Spot → Token → Bool
is_large (Inside head s) t = is_large_at s t
is_large _ t = false

abbrev pub judged_on : ℕ → Bool → Option Place → (Place → Verdict) → Verdict
judged_on at large None go = Bad Syntax at
judged_on at true (Some p) go = Bad BoundTooLarge at
judged_on at false (Some p) go = if nat_le (least_of p) 256 then go p else Bad TooDeep at

abbrev pub ending : ℕ → Option Read → Verdict
ending at None = Bad Syntax at
ending at (Some r) = Good r

abbrev pub judge : Place → ℕ → List Token → Verdict
judge p at [] = ending at (ended p p.spot)
judge p at (t ∷ ts) = judged_on at (is_large p.spot t) (next_place p t) (λ q. judge q (at + 1) ts)
